-- The laws of data files, which are those of every reader.
use Rattle.opl_reader_laws.proofs.Laws as of_readers
use Rattle.opl_data.specs.Answers.{ParseAnswers}
use Rattle.opl_data.specs.Grammar.{whole, whole_within}
use Rattle.opl_data.specs.Laws.{OneTree, TreeOrStop, OneStop, OneOpening, ParseTotal, DeepOrTree, OnlyDeeper}
use Rattle.opl_data.specs.Marks.{marks_file}
use Rattle.opl_data.specs.declared.tree.DataTree.{DataTree}
use Rattle.opl_data.proofs.Files.{starts_file, data_grammar}
use Rattle.opl_grammar.specs.Model.{ReadsAll, start}
use Rattle.opl_token.specs.declared.token.Token.{Token}
use Rattle.opl_tree.specs.declared.fault.SyntaxFault.{SyntaxFault}
use Rattle.std.proofs.Common.{ℕ, List, Result}

pub one_tree : OneTree
one_tree = of_readers.one_tree marks_file starts_file whole_within data_grammar

pub tree_or_stop : TreeOrStop
tree_or_stop = of_readers.tree_or_stop marks_file starts_file whole_within data_grammar

pub one_stop : OneStop
one_stop = of_readers.one_stop marks_file starts_file whole_within data_grammar

pub one_opening : OneOpening
one_opening = of_readers.one_opening marks_file starts_file whole_within data_grammar

pub parse_total : ParseTotal
parse_total = of_readers.parse_total marks_file starts_file whole_within data_grammar

pub deep_or_tree : DeepOrTree
deep_or_tree = of_readers.deep_or_tree marks_file starts_file whole_within data_grammar

pub only_deeper : OnlyDeeper
only_deeper = of_readers.only_deeper marks_file starts_file whole_within data_grammar

-- what the parser answers
pub read_answers : (tokens : List Token) (end : ℕ) (r : Result DataTree SyntaxFault) → ReadsAll (whole (start tokens end)) r → ParseAnswers tokens end r
read_answers = of_readers.read_answers marks_file starts_file whole_within data_grammar
