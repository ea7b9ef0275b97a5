use mathlib.Core.Path.{◌≡◌}
use lib.ListN.{length, take}
use borrow.Author.Rules.{rules}
use Rattle.records.specs.Limits.{version1}
use Rattle.close.proofs.Whole.{within, of_all}
use Rattle.close.proofs.answer_input.Goals as goal

pub returns : goal.returns
returns c = let given = c.args in
    let read = take given.n given.face.now in
    let old = given.out.now in
    let answered = c.write_answer.ensures in
    let left = answered.out_after in
    let found = answered.found_in in
    let full : length old ≡ version1.result = search rules in
    let enough : length given.face.now ≡ 20622 = search rules in
    record {
      upper_bound = within read old full answered.value left;
      for_every_input = λ input first. of_all read old full answered.value left input enough first found;
    }
