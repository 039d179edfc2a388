use Rattle.std.proofs.Common.{arith}
use Rattle.generator.specs.Instances.{generated}
use Rattle.generator.proofs.laws.generated_is_read_back.Goals as goal

pub returns-clause-own : goal.returns-clause-own
returns-clause-own c = λ n text some few is. c.written_text_is_of_one_instance.ensures.own (generated n) text (c.generated_is_valid.ensures n some few) (c.generated_is_encoded.ensures.decimals n) is (omega (arith, few, c.generated_is_encoded.ensures.short n text some few is))

pub returns-clause-only : goal.returns-clause-only
returns-clause-only c = λ n q text some few is. c.written_text_is_of_one_instance.ensures.only (generated n) q text (c.generated_is_valid.ensures n some few) (c.generated_is_encoded.ensures.decimals n) is (omega (arith, few, c.generated_is_encoded.ensures.short n text some few is))

pub returns-clause-back : goal.returns-clause-back
returns-clause-back c = λ n text r some few is. c.instances_are_read_back.ensures (generated n) text r (c.generated_is_valid.ensures n some few) (c.generated_is_encoded.ensures.decimals n) is (omega (arith, few, c.generated_is_encoded.ensures.short n text some few is))
