use Rattle.std.proofs.Common.{rules, ◌≡◌, ◌+◌, ◌*◌, pos, get_or, to_z, of_z, arith}
use Rattle.std.specs.Int.{w64, int_min}
use Rattle.lt_diff.proofs.Stating.{done}
use Rattle.lt_diff.proofs.square.state.Goals as goal

pub returns-clause-cells : goal.returns-clause-cells
returns-clause-cells c =
    let n = c.args.size in
    let xs = c.args.cells.now in
    let a = c.args.a in
    let b = c.args.b in
    let cell : to_z w64 (of_z w64 (get_or xs (a * n + b) (pos 0))) ≡ get_or xs (a * n + b) (pos 0) = search rules in
    let most : to_z w64 (of_z w64 c.args.most) ≡ c.args.most = search rules in
    let written : to_z w64 (of_z w64 c.min.result) ≡ c.min.result = search rules in
    let is : c.min.result ≡ int_min (get_or xs (a * n + b) (pos 0)) c.args.most = grind (arith, cell, most, c.min.ensures.value) in
    (done n xs a b c.min.result (to_z w64 (of_z w64 c.min.result)) c.args.most c.requires.square c.requires.a c.requires.b c.requires.low c.requires.high c.requires.stated is written).cells

pub returns-clause-stated : goal.returns-clause-stated
returns-clause-stated c =
    let n = c.args.size in
    let xs = c.args.cells.now in
    let a = c.args.a in
    let b = c.args.b in
    let cell : to_z w64 (of_z w64 (get_or xs (a * n + b) (pos 0))) ≡ get_or xs (a * n + b) (pos 0) = search rules in
    let most : to_z w64 (of_z w64 c.args.most) ≡ c.args.most = search rules in
    let written : to_z w64 (of_z w64 c.min.result) ≡ c.min.result = search rules in
    let is : c.min.result ≡ int_min (get_or xs (a * n + b) (pos 0)) c.args.most = grind (arith, cell, most, c.min.ensures.value) in
    (done n xs a b c.min.result (to_z w64 (of_z w64 c.min.result)) c.args.most c.requires.square c.requires.a c.requires.b c.requires.low c.requires.high c.requires.stated is written).stated

pub returns-clause-own : goal.returns-clause-own
returns-clause-own c =
    let n = c.args.size in
    let xs = c.args.cells.now in
    let a = c.args.a in
    let b = c.args.b in
    let cell : to_z w64 (of_z w64 (get_or xs (a * n + b) (pos 0))) ≡ get_or xs (a * n + b) (pos 0) = search rules in
    let most : to_z w64 (of_z w64 c.args.most) ≡ c.args.most = search rules in
    let written : to_z w64 (of_z w64 c.min.result) ≡ c.min.result = search rules in
    let is : c.min.result ≡ int_min (get_or xs (a * n + b) (pos 0)) c.args.most = grind (arith, cell, most, c.min.ensures.value) in
    (done n xs a b c.min.result (to_z w64 (of_z w64 c.min.result)) c.args.most c.requires.square c.requires.a c.requires.b c.requires.low c.requires.high c.requires.stated is written).own

pub returns-clause-kept : goal.returns-clause-kept
returns-clause-kept c =
    let n = c.args.size in
    let xs = c.args.cells.now in
    let a = c.args.a in
    let b = c.args.b in
    let cell : to_z w64 (of_z w64 (get_or xs (a * n + b) (pos 0))) ≡ get_or xs (a * n + b) (pos 0) = search rules in
    let most : to_z w64 (of_z w64 c.args.most) ≡ c.args.most = search rules in
    let written : to_z w64 (of_z w64 c.min.result) ≡ c.min.result = search rules in
    let is : c.min.result ≡ int_min (get_or xs (a * n + b) (pos 0)) c.args.most = grind (arith, cell, most, c.min.ensures.value) in
    (done n xs a b c.min.result (to_z w64 (of_z w64 c.min.result)) c.args.most c.requires.square c.requires.a c.requires.b c.requires.low c.requires.high c.requires.stated is written).kept
