use Rattle.opl_turns.proofs.Turns.{enters, enters_last, enters_none, back_ends, back_gate, back_tries}
use Rattle.opl_turns.proofs.places_turn.Goals as goal

pub returns : goal.returns
returns c = λ goal sets P b n os. record {
  enters = λ w ws. enters goal sets w ws b n os;
  enters_last = λ w. enters_last goal sets w b n os;
  enters_none = λ w ws. enters_none goal sets w ws b os;
  ends = back_ends goal sets P b n;
  passes = λ ts. back_gate goal sets ts P b n os;
  tries = λ ws. back_tries goal sets ws P b n os;
}
