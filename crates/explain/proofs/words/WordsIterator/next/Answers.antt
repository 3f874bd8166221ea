use Rattle.std.proofs.Common.{length, true-eqb, false-eqb, arith}
use Rattle.explain.proofs.Cutting.{first_word, no_word}
use Rattle.explain.proofs.words.WordsIterator.next.Goals as goal

pub returns-then-is_empty-clause-steps : goal.returns-then-is_empty-clause-steps
returns-then-is_empty-clause-steps c = no_word c.args.self.now.rest.now c.trim_ascii_start.result.now c.first_word.result.0.now c.first_word.result.1.now c.trim_ascii_start.ensures.value c.first_word.ensures.cut c.first_word.ensures.ends (true-eqb (length c.first_word.result.0.now) 0 c.if-is_empty.ensures)

pub returns-else-is_empty-clause-steps : goal.returns-else-is_empty-clause-steps
returns-else-is_empty-clause-steps c = first_word c.args.self.now.rest.now c.trim_ascii_start.result.now c.first_word.result.0.now c.first_word.result.1.now c.trim_ascii_start.ensures.value c.first_word.ensures.cut c.first_word.ensures.ends c.first_word.ensures.solid (omega (arith, false-eqb (length c.first_word.result.0.now) 0 c.if-is_empty.ensures))
