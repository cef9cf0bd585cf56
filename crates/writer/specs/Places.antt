-- A text put into a buffer.
use Rattle.std.specs.Prelude.{◌≡◌, ℕ, ◌+◌, ◌-◌, ◌^◌, ◌≤◌, min, List, ◌++◌, length, take, drop}
use Rattle.writer.specs.declared.sink.Sink.{Sink}

-- the text is counted; if the buffer has room for it, it stands at a place, up to the place past it, and all other bytes are as they were
pub record Puts (before : List ℕ) (at : ℕ) (after : List ℕ) (past : ℕ) (text : List ℕ) : Type 0 where
  pub counted : past ≡ min (at + length text) (2 ^ 64 - 1)
  pub exact : at + length text ≤ length before → past ≡ at + length text
  pub front : at + length text ≤ length before → take past after ≡ take at before ++ text
  pub back : at + length text ≤ length before → drop past after ≡ drop past before
  pub long : length after ≡ length before

-- a text put into the buffer of a sink, at its place
pub record Gains (before after : Sink) (text : List ℕ) : Type 0 where
  pub same : after.out.ghost_name ≡ before.out.ghost_name
  pub puts : Puts before.out.now before.at after.out.now after.at text
