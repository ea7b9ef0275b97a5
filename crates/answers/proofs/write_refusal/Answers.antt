use Rattle.answers.proofs.Front.{six_short, six_written}
use Rattle.answers.proofs.write_refusal.Goals as goal

pub returns-then-out-lt6 : goal.returns-then-out-lt6
returns-then-out-lt6 c = let r = six_short c.args.out.now _ _ c.if-out-lt6.true in record { value = r.0; out_after = r.1 }

pub returns : goal.returns
returns c = let given = c.args in
    let r = six_written given.out.now given.number given.place c.if-out-lt6.false c.put_refusal.ensures in
    record { value = r.0; out_after = r.1 }
