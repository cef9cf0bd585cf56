-- The text of a node up to its operands.
use Rattle.std.specs.Prelude.{ℕ, List, ◌++◌, map, codes}
use Rattle.items.specs.Tokens.{word_text}
use Rattle.grammar.specs.Entries.{Entry}
use Rattle.grammar.specs.TableText.{arg_text, spaced}

abbrev pub head_text : Entry → List ℕ
head_text e = codes "(" ++ (word_text e.word ++ spaced (map arg_text e.args))
