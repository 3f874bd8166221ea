use Rattle.kind.proofs.rewriter.AnyEqEqRewriter.coupling.Goals as goal

pub returns-in-Basic : goal.returns-in-Basic
returns-in-Basic c = λ S. cc (c.coupling.ensures S)

pub returns-in-Complex : goal.returns-in-Complex
returns-in-Complex c = λ S. cc (c.coupling-in-Complex.ensures S)

pub returns-in-Custom : goal.returns-in-Custom
returns-in-Custom c = λ S. cc (c.coupling-in-Custom.ensures S)

pub returns-in-Force : goal.returns-in-Force
returns-in-Force c = λ S. cc (c.coupling-in-Force.ensures S)
