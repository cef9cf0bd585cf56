-- Why a call is refused: of the refusals that fit, the one with the smallest number is answered.
use Rattle.std.specs.Prelude.{Bool, cond, List, [], ◌∷◌, Some, None, Ok, Err, Option, Result, nat_le}
use Rattle.session.specs.declared.fault.SessionFault.{SessionFault}
use Rattle.session.specs.Faults.{fault_number}

-- a refusal, and whether it fits the call
pub record Reason : Type 0 where
  pub fault : SessionFault
  pub fits : Bool

abbrev pub reason : SessionFault → Bool → Reason
reason e b = record { fault = e; fits = b }

-- of two refusals the one with the smaller number
abbrev pub smaller : SessionFault → Option SessionFault → Option SessionFault
smaller e None = Some e
smaller e (Some d) = Some (cond (nat_le (fault_number e) (fault_number d)) e d)

-- of the refusals that fit the one with the smallest number
abbrev pub smallest : List Reason → Option SessionFault
smallest [] = None
smallest (r ∷ rs) = cond r.fits (smaller r.fault (smallest rs)) (smallest rs)

-- the answer, unless the call is refused
abbrev pub unless : {X : Type 0} → Option SessionFault → X → Result X SessionFault
unless None x = Ok x
unless (Some e) x = Err e
