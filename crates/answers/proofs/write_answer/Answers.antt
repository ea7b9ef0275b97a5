use lib.ListN.{length}
use borrow.Author.Rules.{rules}
use Rattle.std.specs.Prelude.{Ok, Err}
use Rattle.call.specs.Judge.{judge}
use Rattle.answers.proofs.Front.{found_in, closed-written, refused_written}
use Rattle.answers.proofs.Small.{four-bytes_hold}
use Rattle.answers.proofs.write_answer.Goals as goal

pub returns-in-Ok : goal.returns-in-Ok
returns-in-Ok c = let given = c.args in
    let old = given.out.now in
    let o = judge (length old) given.face.now in
    let call = c.in-Ok.ensures in
    let wrote = closed-written o old call.value call.res_after (search rules) in
    record {
      value = wrote.0;
      out_after = wrote.1;
      found_in = found_in o old wrote.1
          (four-bytes_hold o given.face.now old (Ok c.in-Ok.length) call.value call.demand1);
    }

pub returns-in-Err : goal.returns-in-Err
returns-in-Err c = let given = c.args in
    let old = given.out.now in
    let o = judge (length old) given.face.now in
    let call = c.in-Err.ensures in
    let refusal = c.in-Err.refusal in
    let wrote = refused_written o old refusal call.value call.res_after c.number.ensures c.place.ensures
    (c.write_refusal.ensures.value, c.write_refusal.ensures.out_after) in
    record {
      value = wrote.0;
      out_after = wrote.1;
      found_in = found_in o old wrote.1
          (four-bytes_hold o given.face.now old (Err refusal) call.value call.demand1);
    }
