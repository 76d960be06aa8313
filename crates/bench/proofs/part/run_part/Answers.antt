-- `bench::part::run_part` meets its contract: the drive powers up, and both calls run.
-- Assumes nothing.
use Rattle.bench.proofs.Parted.{made, powers_up, runs_before}
use Rattle.bench.proofs.part.run_part.Goals as goal

pub returns-in_err-power_up_words : goal.returns-in_err-power_up_words
returns-in_err-power_up_words c = absurd (powers_up _ c.requires c.in_err-power_up_words.ensures)

pub returns-in_err-replay_part : goal.returns-in_err-replay_part
returns-in_err-replay_part c = absurd (runs_before _ c.requires c.in_ok-power_up_words.ensures c.in_err-replay_part.ensures)

pub returns : goal.returns
returns c = made c.requires c.replay_part.auto.answers c.replay_part.auto.gaps c.in_ok-power_up_words.ensures c.replay_part.ensures c.replay_part-2.ensures
