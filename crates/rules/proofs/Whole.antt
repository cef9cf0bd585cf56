-- What the reading of a whole text says of its table.
use Rattle.std.proofs.Common.{◌≡◌, ℕ, List, sym, ap, ◌∙◌, subst}
use Rattle.syntax.specs.declared.Rule.{Rule}
use Rattle.grammar.specs.declared.fault.ReadFault.{ReadFault}
use Rattle.grammar.specs.Entries.{Entry}
use Rattle.grammar.specs.Reading.{State, done, stop}
use Rattle.grammar.specs.Files.{Line, WellFile, lines_text}
use Rattle.grammar.specs.Formed.{Formed}
use Rattle.grammar.specs.TableText.{table_text}
use Rattle.grammar.specs.RoundTrip.{ReadBack, reading, Gives}
use Rattle.grammar.proofs.Inversion.{stopped}
use Rattle.grammar.proofs.RoundTrip.{read_back, written_back}
use Rattle.grammar.proofs.TableText.{text_back}

pub formed : (text : List ℕ) (rs : List Rule) (ns : List Entry) → ReadBack text rs ns → Formed ns rs
formed text rs ns h = record { lines = h.lines; well = h.well.lines; few = h.well.few; are_nodes = h.are_nodes; are_rules = h.are_rules }

module _ (text : List ℕ) (rs : List Rule) (t : State) (ns : List Entry) (is : reading text ≡ done rs t) (n : ns ≡ t.nodes) where
  pub gives : Gives text ns rs
  gives = (t, is, sym n)

  pub spelt : ReadBack text rs ns × (text ≡ table_text ns rs)
  spelt =
      let b = subst (ReadBack text rs) (sym n) (read_back text rs t is) in
      (b, text_back text rs ns b)

-- a text that is not read is not the text of well-formed rules
pub unspelt : (text : List ℕ) (f : ReadFault) → reading text ≡ stop f → (ls : List Line) → WellFile ls → text ≡ lines_text ls → ⊥
unspelt text f e ls w same = stopped (sym e ∙ ap reading same ∙ (written_back ls w).reads)
