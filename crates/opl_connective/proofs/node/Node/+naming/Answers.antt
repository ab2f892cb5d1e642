use Rattle.std.proofs.Common.{◌∙◌, ap, sym}
use Rattle.opl_connective.specs.Trees.{tree, names}
use Rattle.opl_connective.proofs.Plain.{tree_Literal, tree_Not, tree_And, tree_Or, tree_Iff}
use Rattle.opl_connective.proofs.node.Node.+naming.Goals as goal

pub returns-in-Literal : goal.returns-in-Literal
returns-in-Literal t c = c.as_slice.ensures ∙ sym (ap names (ap tree c.in-Literal.is ∙ tree_Literal c.in-Literal.part c.in-Literal._opposite))

pub returns-in-Not : goal.returns-in-Not
returns-in-Not t c = c.variables.ensures ∙ ap (λ z. names (tree z)) c.get.ensures ∙ sym (ap names (ap tree c.in-Not.is ∙ tree_Not c.in-Not.node))

pub returns-in-And : goal.returns-in-And
returns-in-And t c = c.as_slice-in-And.ensures ∙ sym (ap names (ap tree c.in-And.is ∙ tree_And c.in-And.variables c.in-And._nodes))

pub returns-in-Or : goal.returns-in-Or
returns-in-Or t c = c.as_slice-in-Or.ensures ∙ sym (ap names (ap tree c.in-Or.is ∙ tree_Or c.in-Or.variables c.in-Or._nodes))

pub returns-in-Iff : goal.returns-in-Iff
returns-in-Iff t c = c.as_slice-in-Iff.ensures ∙ sym (ap names (ap tree c.in-Iff.is ∙ tree_Iff c.in-Iff.variables c.in-Iff._first c.in-Iff._second))
