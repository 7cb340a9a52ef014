use Rattle.lt_check.proofs.memo.Memo.go_to.Goals as goal

pub returns-clause-tells : goal.returns-clause-tells
returns-clause-tells c = λ holds was n b e. c.in_ok-forget.ensures (λ ls k. holds c.put.new.lasts.items k) n b e
