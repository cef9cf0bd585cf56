use Rattle.std.proofs.Common.{[], ◌∷◌, decimal, Some, None, sym, ◌∙◌, append_assoc, lit<}
use Rattle.std.proofs.lemmas.Str.Pattern.{split_after, split_parts, strip_suffix_char}
use Rattle.recordtext.proofs.StateLines.{pair_of, stamp_lacks_space, numbers_from}
use Rattle.recordtext.proofs.reading.two_numbers.Goals as goal

pub returns-in_err-strip_suffix : goal.returns-in_err-strip_suffix
returns-in_err-strip_suffix c = rw c.from_residual.ensures (λ t w ts ws is. strip_suffix_char 41 c.args.text.now None c.in_err-strip_suffix.ensures.cases (lit< tt) _ (is ∙ sym (append_assoc (decimal t) (32 ∷ decimal w) (41 ∷ []))))

pub returns-in_err-stamp : goal.returns-in_err-stamp
returns-in_err-stamp c = rw c.from_residual-in_err-stamp.ensures (λ t w ts ws is.
    let closed = strip_suffix_char 41 c.args.text.now (Some c.in_ok-strip_suffix.field-0) c.in_ok-strip_suffix.ensures.cases (lit< tt) in
    let pair = pair_of t w ts ws c.args.text.now c.in_ok-strip_suffix.field-0.now is closed in
    split_after 32 c.in_ok-strip_suffix.field-0.now (decimal t) (decimal w) None c.in_err-stamp.ensures.cases (lit< tt) pair (stamp_lacks_space t w ts ws))

pub returns-in_err-natural : goal.returns-in_err-natural
returns-in_err-natural c = rw c.from_residual-in_err-natural.ensures (λ t w ts ws is.
    let closed = strip_suffix_char 41 c.args.text.now (Some c.in_ok-strip_suffix.field-0) c.in_ok-strip_suffix.ensures.cases (lit< tt) in
    let pair = pair_of t w ts ws c.args.text.now c.in_ok-strip_suffix.field-0.now is closed in
    let parts = split_after 32 c.in_ok-strip_suffix.field-0.now (decimal t) (decimal w) (Some (c.in_ok-stamp.stamp, c.in_ok-stamp.row)) c.in_ok-stamp.ensures.cases (lit< tt) pair (stamp_lacks_space t w ts ws) in
    c.in_err-natural.ensures t ts parts.0)

pub returns-in_err-natural-2 : goal.returns-in_err-natural-2
returns-in_err-natural-2 c = rw c.from_residual-in_err-natural-2.ensures (λ t w ts ws is.
    let closed = strip_suffix_char 41 c.args.text.now (Some c.in_ok-strip_suffix.field-0) c.in_ok-strip_suffix.ensures.cases (lit< tt) in
    let pair = pair_of t w ts ws c.args.text.now c.in_ok-strip_suffix.field-0.now is closed in
    let parts = split_after 32 c.in_ok-strip_suffix.field-0.now (decimal t) (decimal w) (Some (c.in_ok-stamp.stamp, c.in_ok-stamp.row)) c.in_ok-stamp.ensures.cases (lit< tt) pair (stamp_lacks_space t w ts ws) in
    c.in_err-natural-2.ensures w ws parts.1)

pub returns : goal.returns
returns c =
    let closed = strip_suffix_char 41 c.args.text.now (Some c.in_ok-strip_suffix.field-0) c.in_ok-strip_suffix.ensures.cases (lit< tt) in
    let apart = split_parts 32 c.in_ok-strip_suffix.field-0.now (Some (c.in_ok-stamp.stamp, c.in_ok-stamp.row)) c.in_ok-stamp.ensures.cases (lit< tt) in
    let stamp = c.in_ok-natural.ensures in
    let row = c.in_ok-natural-2.ensures in
    (rw (← stamp.0, ← row.0) (numbers_from c.args.text.now _ _ _ closed apart.0), (stamp.1, row.1))
