-- Where the value of a node at a state is kept.
use Rattle.std.proofs.Common.{◌≡◌, ℕ, ◌+◌, ◌*◌, ◌/◌, ◌%◌, ◌<◌, sym, ap, ◌∙◌, mul_comm, arith}
use Rattle.std.proofs.lemmas.Nat.{mul-add-lt, mod-mul-add, div-mul-add}

-- the place lies among the values of all states
pub place_within : (i nodes m states total : ℕ) → i < states → m < nodes → total ≡ states * nodes → i * nodes + m < total
place_within i nodes m states total li lm e = omega (arith, mul-add-lt i nodes m states li lm, mul_comm nodes states)

-- different nodes have different places, and different states
pub place_apart : (nodes m a i j : ℕ) → m < nodes → a < nodes → (a ≡ m → ⊥) → j * nodes + a ≡ i * nodes + m → ⊥
place_apart nodes m a i j lm la ne e =
    ne (sym (mod-mul-add j nodes a la) ∙ ap (λ p. p % nodes) e ∙ mod-mul-add i nodes m lm)

pub place_later : (nodes m i j : ℕ) → m < nodes → (j ≡ i → ⊥) → j * nodes + m ≡ i * nodes + m → ⊥
place_later nodes m i j lm ne e = ne (sym (div-mul-add j nodes m lm) ∙ ap (λ p. p / nodes) e ∙ div-mul-add i nodes m lm)
