use Rattle.std.proofs.Common.{sym, refl}
use Rattle.items.specs.declared.item.Kind.TheVariants as kind
use Rattle.items.proofs.Marks.{takes_as}
use Rattle.items.proofs.cursor.Cursor.take_if.Goals as goal

pub returns-in-Open-clause-item : goal.returns-in-Open-clause-item
returns-in-Open-clause-item c =
    let s = c.args.self.now in
    takes_as kind.Open c.args.kind 40 s.rest.now c.take_byte.new.self.rest.now s.place c.take_byte.new.self.place c.take_byte.result (sym c.in-Open.is) refl refl refl c.take_byte.ensures

pub returns-in-Close-clause-item : goal.returns-in-Close-clause-item
returns-in-Close-clause-item c =
    let s = c.args.self.now in
    takes_as kind.Close c.args.kind 41 s.rest.now c.take_byte-in-Close.new.self.rest.now s.place c.take_byte-in-Close.new.self.place c.take_byte-in-Close.result (sym c.in-Close.is) refl refl refl c.take_byte-in-Close.ensures

pub returns-in-Space-clause-item : goal.returns-in-Space-clause-item
returns-in-Space-clause-item c =
    let s = c.args.self.now in
    takes_as kind.Space c.args.kind 32 s.rest.now c.take_byte-in-Space.new.self.rest.now s.place c.take_byte-in-Space.new.self.place c.take_byte-in-Space.result (sym c.in-Space.is) refl refl refl c.take_byte-in-Space.ensures

pub returns-in-Newline-clause-item : goal.returns-in-Newline-clause-item
returns-in-Newline-clause-item c =
    let s = c.args.self.now in
    takes_as kind.Newline c.args.kind 10 s.rest.now c.take_byte-in-Newline.new.self.rest.now s.place c.take_byte-in-Newline.new.self.place c.take_byte-in-Newline.result (sym c.in-Newline.is) refl refl refl c.take_byte-in-Newline.ensures
