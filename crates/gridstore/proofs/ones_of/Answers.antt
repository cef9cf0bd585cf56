use Rattle.std.proofs.Common.{◌≡◌, count_ones, get_or, ◌∙◌, w64, Fits, rules}
use Rattle.std.specs.List.{sum_by}
use Rattle.gridstore.specs.Grids.{words_count}
use Rattle.gridstore.proofs.ones_of.Goals as goal

pub returns : goal.returns
returns c =
    let ws = c.args.words.now in
    let total : c.sum.result ≡ sum_by count_ones ws = search rules in
    total ∙ words_count 0 ws (λ k l. let fits : Fits w64 (get_or ws k 0) = search rules in fits.fits)
