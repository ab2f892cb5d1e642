use Rattle.std.proofs.Common.{◌∙◌, ap, map, get_or, ◌-◌, [], arith}
use Rattle.opl_tool.proofs.LineLemmas.{behind-first}
use Rattle.opl_tool.proofs.line.name_in.Goals as goal

pub returns : goal.returns
returns c =
    c.as_bytes-2.ensures.value ∙ c.name_at.ensures ∙ ap (λ names. get_or (map (λ name. name.now) names) (c.args.file - 1) []) c.as_slice.ensures
    ∙ behind-first c.args.asked.now.model.now (map (λ name. name.now) c.args.asked.now.files) c.args.file (omega (arith, c.if-file-eq0.false))
