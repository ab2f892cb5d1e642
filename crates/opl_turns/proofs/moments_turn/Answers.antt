use Rattle.opl_turns.proofs.Turns.{down_goes, down_dies, down_chooses, down_commits, down_spends, down_solves, down_leaves, down_fails}
use Rattle.opl_turns.proofs.moments_turn.Goals as goal

pub returns : goal.returns
returns c = λ goal sets ts P b n os. record {
  fails = down_fails goal sets ts P b n os;
  goes = λ C w e. down_goes goal sets ts P b n os C e w;
  dies = λ C e. down_dies goal sets ts P b n os C e;
  spends = λ C e. down_spends goal sets ts P b n os C e;
  chooses = λ C ws e. down_chooses goal sets ts P b n os C e ws;
  commits = λ C s us e. down_commits goal sets ts P b n os C e s us;
  solves = λ C e. down_solves goal sets ts P b n os C e;
  leaves = λ C e. down_leaves goal sets ts P b n os C e;
}
