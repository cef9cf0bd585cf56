use Rattle.std.proofs.Common.{◌≡◌, ◌+◌, ◌-◌, ◌++◌, ◌∷◌, [], map, replicate, vec_len, ap, ◌∙◌, rules}
use Rattle.report.specs.Excerpts.{shown, part, first_shown}
use Rattle.report.proofs.Excerpts.{resized, joined}
use Rattle.report.proofs.excerpt.excerpt.Goals as goal

pub returns : goal.returns
returns c =
    let from : c.saturating_sub-from.result ≡ first_shown c.args.byte = c.saturating_sub-from.ensures in
    let line : c.in_ok-out.out.items ≡ map shown (part c.args.line.now c.saturating_sub-from.result) = c.in_ok-out.ensures in
    let column : c.saturating_sub.result - c.saturating_sub-from.result ≡ c.args.byte - 1 - first_shown c.args.byte = ap (λ n. n - c.saturating_sub-from.result) c.saturating_sub.ensures ∙ ap (λ n. c.args.byte - 1 - n) from in
    let spaces : c.resize.new.self.items ≡ c.push.new.self.items ++ replicate (c.saturating_sub.result - c.saturating_sub-from.result) 32 = c.in_ok-resize.ensures.items ∙ resized c.push.new.self.items (vec_len c.push.new.self) (c.len.result + (c.saturating_sub.result - c.saturating_sub-from.result)) (c.saturating_sub.result - c.saturating_sub-from.result) (search rules) (search rules) in
    joined (replicate (c.args.byte - 1 - first_shown c.args.byte) 32) (94 ∷ 10 ∷ []) (line ∙ ap (λ n. map shown (part c.args.line.now n)) from) c.in_ok-push.ensures.items (spaces ∙ ap (λ n. c.push.new.self.items ++ replicate n 32) column) c.in_ok-extend_from_slice.ensures.items
