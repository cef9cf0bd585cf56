-- When nodes and rules are those of well-formed lines.
use Rattle.std.specs.Prelude.{◌≡◌, ◌≤◌, List, []}
use Rattle.grammar.specs.Entries.{Entry}
use Rattle.syntax.specs.declared.Rule.{Rule}
use Rattle.grammar.specs.Files.{Line, lines_rules, lines_nodes, formulas, WellLines}

-- at most 16 rules with rising numbers and at most 64 formulas, the nodes in the order of the closing brackets
pub record Formed (nodes : List Entry) (rules : List Rule) : Type 0 where
  pub lines : List Line
  pub well : WellLines 16 1 lines
  pub few : formulas lines ≤ 64
  pub are_nodes : nodes ≡ lines_nodes [] lines
  pub are_rules : rules ≡ lines_rules [] lines
