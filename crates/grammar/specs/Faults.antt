-- The numbers of the faults of a rule file, and how a fault is printed.
use Rattle.std.specs.Prelude.{ℕ, List, ◌++◌, codes, decimal}
use Rattle.grammar.specs.declared.fault.ReadFault.{ReadFault}
use Rattle.grammar.specs.declared.fault.FaultKind.{FaultKind}
use Rattle.grammar.specs.declared.fault.FaultKind.TheVariants.{Misfit, BadNumber, Unordered, TooMany, Empty}

abbrev pub fault_number : FaultKind → ℕ
fault_number Misfit = 11
fault_number BadNumber = 12
fault_number Unordered = 13
fault_number TooMany = 14
fault_number Empty = 15

-- the fault's number, line and byte
abbrev pub fault_text : ReadFault → List ℕ
fault_text f = decimal (fault_number f.kind) ++ (codes " " ++ (decimal f.place.line ++ (codes " " ++ decimal f.place.byte)))
