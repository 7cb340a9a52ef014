use Rattle.std.proofs.Common.{◌≡◌, ◌∙◌, rules, string_bytes}
use Rattle.std.specs.HashMap.{get}
use Rattle.indexmap.proofs.CallerLemmas.{insert_entry-new}
use Rattle.lt_macros.specs.Tree.{exception}
use Rattle.lt_expand.proofs.Ranks.{declaration_eq, none_there, put_new, put_there}
use Rattle.lt_expand.proofs.exceptions.Exceptions.put.Goals as goal

pub returns-then-contains_key : goal.returns-then-contains_key
returns-then-contains_key c =
    put_there c.args.self.now.names.entries (exception c.args.one.now) c.declaration_of-declaration.result c.contains_key.result c.declaration_of-declaration.ensures c.contains_key.ensures c.if-contains_key.true

pub returns : goal.returns
returns c =
    let k = c.declaration_of-declaration.result in
    let v = c.deref.result in
    let name : v.now ≡ string_bytes c.args.one.now.name = search rules in
    let none = none_there (get declaration_eq c.args.self.now.names k) c.contains_key.result c.contains_key.ensures c.if-contains_key.false in
    let is = insert_entry-new declaration_eq c.args.self.now.names k v none in
    let at = c.declaration_of-declaration.ensures in
    put_new c.args.self.now.names.entries c.insert.new.self.entries (exception c.args.one.now) (k, v) c.contains_key.result at c.contains_key.ensures c.if-contains_key.false
    (λ i. record { name = name i; place = (at i).place; terms_before = (at i).terms_before })
    (c.in_ok-insert.ensures.entries ∙ is)
