use Rattle.opl_files.specs.Reading.{front_of}
use Rattle.opl_files.proofs.ReadingLemmas.{read-gives}
use Rattle.opl_files.proofs.reading.read.Goals as goal

pub returns : goal.returns
returns c =
    read-gives c.args.bytes.now c.args.others.now c.in_ok-tokens.tokens c.in_ok-others_tokens.others_tokens c.as_slice.result.now (front_of c.understand.result) c.as_slice.ensures
    c.in_ok-tokens.ensures c.in_ok-others_tokens.ensures c.understand.ensures
