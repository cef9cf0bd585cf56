use Rattle.std.proofs.Common.{◌≡◌, List, ◌∙◌, rules, tests}
use Rattle.std.specs.Iterator.{YieldsFirst}
use Rattle.std.proofs.lemmas.Iterator.{YieldsList}
use Rattle.std.proofs.lemmas.Iterator.Consumers.{YieldsList-from_first}
use Rattle.std.proofs.lemmas.Iterator.Search.{all_from_yields_List, any_from_yields_List}
use Rattle.store.specs.declared.facts.Fact.{Fact}
use Rattle.store.specs.Facts.{of_relation, value_in}
use Rattle.query.specs.Queries.{answer, has_key_of, level_with}
use Rattle.query.proofs.Meanings.{says}
use Rattle.query.proofs.answers.ask.Goals as goal

walked : {walk relation xs : List Fact} → walk ≡ relation → relation ≡ xs → YieldsList (YieldsFirst (λ left. left)) (λ x. x) walk xs
walked walk new = YieldsList-from_first (λ x. x) (λ left. left) _ (walk ∙ new)

pub returns-in-Some : goal.returns-in-Some
returns-in-Some g c =
    let some = any_from_yields_List (value_in c.in-Some.low c.in-Some.high) _ _ _ c.any.ensures.ran (walked c.facts.ensures c.new.ensures) (λ x b q k. search (rules, tests)) in
    let value : c.any.result ≡ answer c.args.query (g.S.Store.meaning c.args.store.now).facts = rw c.in-Some.is some in
    record { value = value; words = says c.args.query _ value }

pub returns-in-Every : goal.returns-in-Every
returns-in-Every g c =
    let every = all_from_yields_List (value_in c.in-Every.low c.in-Every.high) _ _ _ c.all.ensures.ran (walked c.facts-in-Every.ensures c.new-in-Every.ensures) (λ x b q k. search (rules, tests)) in
    let value : c.all.result ≡ answer c.args.query (g.S.Store.meaning c.args.store.now).facts = rw c.in-Every.is every in
    record { value = value; words = says c.args.query _ value }

pub returns-in-Refer : goal.returns-in-Refer
returns-in-Refer g c =
    let facts = (g.S.Store.meaning c.args.store.now).facts in
    let every = all_from_yields_List (λ x. has_key_of x (of_relation c.in-Refer.other facts)) _ _ _ c.all-in-Refer.ensures.ran (walked c.facts-in-Refer.ensures c.new-in-Refer.ensures) (λ x b q k. search (rules, tests)) in
    let value : c.all-in-Refer.result ≡ answer c.args.query facts = rw c.in-Refer.is every in
    record { value = value; words = says c.args.query facts value }

pub returns-in-Level : goal.returns-in-Level
returns-in-Level g c =
    let facts = (g.S.Store.meaning c.args.store.now).facts in
    let every = all_from_yields_List (λ x. level_with x (of_relation c.in-Level.other facts)) _ _ _ c.all-in-Level.ensures.ran (walked c.facts-in-Level.ensures c.new-in-Level.ensures) (λ x b q k. search (rules, tests)) in
    let value : c.all-in-Level.result ≡ answer c.args.query facts = rw c.in-Level.is every in
    record { value = value; words = says c.args.query facts value }
