-- `answer_line`: read, called, put out. Assumes nothing.
use Rattle.desk.specs.Running.{answered}
use Rattle.desk.proofs.Table.answer_line.Goals as goal

pub returns-clause-answered : goal.returns-clause-answered
returns-clause-answered c =
    answered c.read_line-c.result c.read_line-c.ensures c.letter_of.ensures c.call-answer.ensures.kept c.put_line.ensures.0 c.put_line.ensures.1
