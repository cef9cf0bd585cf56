use Rattle.std.proofs.Common.{◌≡◌, ℕ, ◌-◌, ◌≤◌, [], ◌∷◌, length, vec_items, sym, ap, ◌∙◌, subst, arith}
use Rattle.std.proofs.lemmas.List.{length-map}
use Rattle.std.proofs.lemmas.Result.{err_from_is_err_and}
use Rattle.grammar.specs.Entries.{entry, entry_of}
use Rattle.grammar.specs.Reading.{done, formula, operands}
use Rattle.rules.specs.declared.reader.Reader.{Reader}
use Rattle.rules.specs.Reads.{state_of}
use Rattle.rules.proofs.Formulas.{args_stop, Head, Operands, operands_stop, closes, still_open, one_stops, two_stops, one_read, second_stops, two_read}
use Rattle.rules.proofs.reader.Reader.+formula.Goals as goal
use Rattle.rules.proofs.reader.Reader.+formula.Goals.{formula-In_ok-form, formula-In_ok-args, formula-Joined-arity, formula-in-Zero, formula-in-One+in_ok-a-in-One, formula-in-Two+in_ok-a-in-Two+in_ok-b-in-Two}

-- at most as many formulas are closed as were opened
within : (r : Reader) → length (state_of r).nodes ≤ (state_of r).opened
within r = omega (arith, r.closed, r.nodes.ok.0, length-map (vec_items r.nodes) entry_of)

-- what every way through the match shares
head : (t : ℕ) (c : formula-In_ok-args t) → Head c.args.levels (state_of c.args.self.now) c.in_ok-form.form c.in_ok-args.args.items (state_of c.arguments.new.self)
head t c = record { at = state_of c.opening.new.self; opens_at = c.in_ok-form.ensures; reads = rw c.slots.ensures at c.in_ok-args.ensures.read }

way : (t : ℕ) (c : formula-Joined-arity t) → Operands c.args.levels c.in_ok-form.form c.in_ok-args.args.items (state_of c.arguments.new.self) (state_of c.match-arity.self) (entry_of c.match-arity.node)
way t c =
    let form = c.in_ok-form.form in
    let inner = formula (c.args.levels - 1) in
    let u = state_of c.arguments.new.self in
    elim c.match-arity.branch [
      | formula-in-Zero w ↦ record {
        numbers = [];
        read = subst (λ n. operands inner n u ≡ done [] (state_of c.match-arity.self)) w.in-Zero.ensures (ap (λ r. done [] (state_of r)) (sym w.self-is));
        node = ap entry_of w.node-is ∙ w.leaf-node.ensures ∙ ap (λ ys. entry form ys []) c.as_slice-args.ensures.value;
      }
      | formula-in-One+in_ok-a-in-One w ↦ (let os = w.in_ok-a-in-One.a ∷ [] in record {
        numbers = os;
        read = subst (λ n. operands inner n u ≡ done os (state_of c.match-arity.self)) w.in-One.ensures (one_read inner u _ _ w.in_ok-a-in-One.ensures ∙ ap (λ r. done os (state_of r)) (sym w.self-is));
        node = ap entry_of w.node-is ∙ w.unary-node.ensures ∙ ap (λ ys. entry form ys os) c.as_slice-args.ensures.value;
      })
      | formula-in-Two+in_ok-a-in-Two+in_ok-b-in-Two w ↦ (let os = w.in_ok-a-in-Two.a ∷ w.in_ok-b-in-Two.b ∷ [] in record {
        numbers = os;
        read = subst (λ n. operands inner n u ≡ done os (state_of c.match-arity.self)) w.in-Two.ensures (two_read inner u _ _ w.in_ok-a-in-Two.ensures _ _ w.in_ok-b-in-Two.ensures ∙ ap (λ r. done os (state_of r)) (sym w.self-is));
        node = ap entry_of w.node-is ∙ w.binary-node.ensures ∙ ap (λ ys. entry form ys os) c.as_slice-args.ensures.value;
      })
    ]

pub formula-returns-in_err-args : goal.formula-returns-in_err-args
formula-returns-in_err-args t c =
    let p = err_from_is_err_and c.from_residual-in_err-args.result c.from_residual-in_err-args.ensures.1 in
    rw (p.1, p.2) (args_stop c.args.levels (state_of c.args.self.now) c.in_ok-form.form (state_of c.opening.new.self) c.in_ok-form.ensures _ (rw c.slots.ensures at c.in_err-args.ensures.read))

pub formula-returns-in_err-a-in-One : goal.formula-returns-in_err-a-in-One
formula-returns-in_err-a-in-One t c =
    let p = err_from_is_err_and c.from_residual-in_err-a-in-One.result c.from_residual-in_err-a-in-One.ensures.1 in
    rw (p.1, p.2) (operands_stop (head t (goal.at.formula-returns-in_err-a-in-One t c).In_ok-args) _ (rw (sym c.in-One.ensures) (one_stops (formula (c.args.levels - 1)) (state_of c.arguments.new.self) _ c.in_err-a-in-One.ensures)))

pub formula-returns-in_err-a-in-Two : goal.formula-returns-in_err-a-in-Two
formula-returns-in_err-a-in-Two t c =
    let p = err_from_is_err_and c.from_residual-in_err-a-in-Two.result c.from_residual-in_err-a-in-Two.ensures.1 in
    rw (p.1, p.2) (operands_stop (head t (goal.at.formula-returns-in_err-a-in-Two t c).In_ok-args) _ (rw (sym c.in-Two.ensures) (two_stops (formula (c.args.levels - 1)) (state_of c.arguments.new.self) _ c.in_err-a-in-Two.ensures)))

pub formula-returns-in_err-b-in-Two : goal.formula-returns-in_err-b-in-Two
formula-returns-in_err-b-in-Two t c =
    let p = err_from_is_err_and c.from_residual-in_err-b-in-Two.result c.from_residual-in_err-b-in-Two.ensures.1 in
    rw (p.1, p.2) (operands_stop (head t (goal.at.formula-returns-in_err-b-in-Two t c).In_ok-args) _ (rw (sym c.in-Two.ensures) (second_stops (formula (c.args.levels - 1)) (state_of c.arguments.new.self) _ _ c.in_ok-a-in-Two.ensures _ c.in_err-b-in-Two.ensures)))

pub formula-closing-requires : goal.formula-closing-requires
formula-closing-requires t c =
    let at = goal.at.formula-closing-requires t c in
    still_open (head t at.In_ok-args) (way t at.Joined-arity) (within c.args.self.now)

pub formula-returns : goal.formula-returns
formula-returns t c =
    let at = goal.at.formula-returns t c in
    closes (head t at.In_ok-args) (way t at.Joined-arity) c.closing.result (state_of c.closing.new.self) c.closing.ensures
