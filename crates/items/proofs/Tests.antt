-- Two tests that differ.
use Rattle.std.proofs.Common.{◌≡◌, ℕ, true, false, arith}

pub apart : false ≡ true → ⊥
apart h = let z : ◌≡◌ {A = ℕ} 0 1 = cc in omega arith
