-- What a parser of models answers.
use Rattle.std.specs.Prelude.{ℕ, List, Result}
use Rattle.opl_token.specs.declared.token.Token.{Token}
use Rattle.opl_tree.specs.declared.fault.SyntaxFault.{SyntaxFault}
use Rattle.opl_reader_laws.specs.Reading as of_marks
use Rattle.opl_tree.specs.Marks.{marks_model}
use Rattle.opl_tree.specs.declared.model.ModelTree.{ModelTree}

-- the tree of the tokens, or why they have none, or none that nests no deeper than may be
abbrev pub ParseAnswers : List Token → ℕ → Result ModelTree SyntaxFault → Type 0
ParseAnswers = of_marks.ParseAnswers marks_model
