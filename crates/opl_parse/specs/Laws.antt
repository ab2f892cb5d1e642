-- Laws of trees, stops and tokens.
use Rattle.opl_reader_laws.specs.Reading as of_marks
use Rattle.opl_tree.specs.Marks.{marks_model}

-- tokens have at most one tree
abbrev pub OneTree : Type 0
OneTree = of_marks.OneTree marks_model

-- tokens that have a tree stop nowhere
abbrev pub TreeOrStop : Type 0
TreeOrStop = of_marks.TreeOrStop marks_model

-- tokens stop at one place at most
abbrev pub OneStop : Type 0
OneStop = of_marks.OneStop marks_model

-- the level too many is opened at one place at most
abbrev pub OneOpening : Type 0
OneOpening = of_marks.OneOpening marks_model

-- tokens have a tree that does not nest too deep, or stop somewhere and open no level too many, or open one
abbrev pub ParseTotal : Type 0
ParseTotal = of_marks.ParseTotal marks_model

-- the tree of tokens that open a level too many nests deeper
abbrev pub DeepOrTree : Type 0
DeepOrTree = of_marks.DeepOrTree marks_model

-- each tree that begins with the tokens up to one that opens a level too many nests deeper
abbrev pub OnlyDeeper : Type 0
OnlyDeeper = of_marks.OnlyDeeper marks_model
