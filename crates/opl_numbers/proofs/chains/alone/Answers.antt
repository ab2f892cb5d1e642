use Rattle.std.proofs.Common.{◌≡◌, ap, arith, get_or, subst, sym, ◌∙◌}
use Rattle.std.proofs.lemmas.List.Elements.{All-get_or}
use Rattle.opl_form.specs.Nodes as making
use Rattle.opl_nodes.specs.Contexts.{arrays, sets}
use Rattle.opl_nodes.specs.Pieces.{IsPart, form}
use Rattle.opl_nodes.proofs.Tests.{makes-same}
use Rattle.opl_numbers.proofs.Sums.{alone-chained, made-part}
use Rattle.opl_numbers.proofs.chains.alone.Goals as goal

pub number_part-requires : goal.number_part-requires
number_part-requires c =
    let k = c.args.context.now in
    let p = c.remove-part.result in
    let same : p ≡ get_or c.args.parts.items 0 p = c.remove-part.ensures.value ∙ ap (λ xs. get_or xs 0 p) c.into_vec-items.ensures in
    subst (IsPart k) (sym same) (All-get_or (IsPart k) c.args.parts.items 0 p (omega arith) c.requires.parts.each)

pub returns-clause-made : goal.returns-clause-made
returns-clause-made c g hs e =
    let k = c.args.context.now in
    let n = c.args.parts.before in
    let p = c.remove-part.result in
    let same : p ≡ get_or c.args.parts.items 0 p = c.remove-part.ensures.value ∙ ap (λ xs. get_or xs 0 p) c.into_vec-items.ensures in
    makes-same k (making.number_part (sets k) (arrays k) k.item c.args.at n (form p)) (making.chained (sets k) (arrays k) k.item c.args.at n g hs) c.number_part.result
    (alone-chained k c.args.at n c.args.parts.items p g hs c.requires.one same e) c.number_part.ensures

pub returns-clause-part : goal.returns-clause-part
returns-clause-part c =
    let k = c.args.context.now in
    made-part k (making.number_part (sets k) (arrays k) k.item c.args.at c.args.parts.before (form c.remove-part.result)) c.number_part.result c.number_part.ensures
