-- The rule of models, and the end of the text.
use Rattle.std.proofs.Common.{◌≡◌, ℕ, true, false, ◌⊎◌, inl, inr, List, ◌∷◌, ◌++◌, map, Option, refl, ap, ◌∙◌}
use Rattle.opl_token.specs.declared.token.Kind.{Kind}
use Rattle.opl_tree.specs.declared.declaration.DeclTree.{DeclTree}
use Rattle.opl_tree.specs.declared.instruction.InstrTree.{InstrTree}
use Rattle.opl_tree.specs.declared.instruction.Optimum.{Optimum}
use Rattle.opl_tree.specs.declared.model.ModelTree.{ModelTree}
use Rattle.opl_tree.specs.declared.search.SearchTree.{SearchTree}
use Rattle.opl_tree.specs.declared.keyword.Keyword.TheVariants as words
use Rattle.opl_grammar.specs.declared.look.Look.TheVariants as looks
use Rattle.opl_tree.specs.Marks.{joined, optimum_word, marks_decl, marks_instr, marks_model}
use Rattle.opl_tree.specs.Marks as mk
use Rattle.opl_tree.proofs.Marks.{marks_model-is}
use Rattle.opl_grammar.specs.Input.{Input, is_word, many}
use Rattle.opl_grammar.specs.Tables.{decl_begins, starts_decl}
use Rattle.opl_grammar.specs.Rules as g
use Rattle.opl_grammar.specs.Declarations as gd
use Rattle.opl_grammar.specs.Items as gi
use Rattle.opl_grammar.specs.Search as gs
use Rattle.opl_grammar.specs.Model as gm
use Rattle.opl_grammar.specs.Rules.{Rules}
use Rattle.opl_grammar.specs.Items.{ItemRules}
use Rattle.opl_grammar.specs.Search.{StatementRules}
use Rattle.opl_parse.proofs.Closing.{rules_law}
use Rattle.opl_parse.proofs.Declared.{decl_law, decl_written}
use Rattle.opl_reader_laws.proofs.Forms.{placed, placed_law, maybe, maybe_law, mapped, plain, plain_law}
use Rattle.opl_reader_laws.proofs.Many.{many_law}
use Rattle.opl_parse.proofs.Ops.{from_optimum}
use Rattle.opl_reader_laws.proofs.Options.{written_maybe}
use Rattle.opl_reader_laws.proofs.Outcomes.{and_then_assoc}
use Rattle.opl_reader_laws.proofs.Finish.{whole_of, whole_grammar}
use Rattle.opl_reader_laws.proofs.Whole.{Grammar}
use Rattle.opl_reader_laws.proofs.Phrases.{Shape, Law, pair, pair_law}
use Rattle.opl_parse.proofs.Searched.{StatementLaws, statement_laws, search_shape, search_law}
use Rattle.opl_parse.proofs.Shapes.{RulesLaw}
use Rattle.opl_parse.proofs.Stated.{ItemLaws, item_laws, starts_instr, instr_law}
use Rattle.opl_reader_laws.proofs.Tokens.{from_word}
use Rattle.opl_tree.specs.declared.instruction.Optimum.TheVariants as optima

-- ---- a model

abbrev ModelParts : Type 0
ModelParts = ℕ × (List DeclTree × (InstrTree × Option SearchTree))

abbrev model_to : ModelParts → ModelTree
model_to c = record { at = c.0; decls = c.1.0; instr = c.1.1.0; search = c.1.1.1 }

model_is : (r : Rules) (u : ItemRules) (v : StatementRules) (i : Input) → gm.model r u v i ≡ mapped model_to (placed (pair (many starts_decl (gd.decl r)) (pair (gi.instr r u) (maybe (is_word words.Search) (gs.search_section r v))))) i
unfolding gm.model
model_is r u v i = simp and_then_assoc

instr_no_decl : (k : Option Kind) → starts_instr k → starts_decl k ≡ false
instr_no_decl k (inl h) = from_word words.Solve (λ l. decl_begins l ≡ false) k h refl
instr_no_decl k (inr h) = from_optimum (λ l. decl_begins l ≡ false) k h optimum_no_decl where
  optimum_no_decl : (a : Optimum) → decl_begins (looks.Word (optimum_word a)) ≡ false
  optimum_no_decl optima.Least = refl
  optimum_no_decl optima.Greatest = refl

abbrev pub model_shape : Shape ModelTree
model_shape = plain marks_model (λ k. is_word words.Search k ≡ false) (λ F k. (starts_decl k ≡ true) ⊎ starts_instr k)

pub model_law : {n : ℕ} {r s : Rules} {u u' : ItemRules} {v v' : StatementRules} → RulesLaw n r s → ItemLaws n u u' → StatementLaws n v v' → Law n (gm.model r u v) (gm.model s u' v') model_shape
model_law {n} {r} {s} {u} {u'} {v} {v'} R I S = plain_law
    (placed_law (pair_law (many_law starts_decl (decl_law R) (record { passes = λ F k h. h; meets = λ k h. tt; written = decl_written })) (pair_law (instr_law R I) (maybe_law (is_word words.Search) (search_law r s S) (λ F k h. h)) (λ x k h. tt))
    (λ x k h. (tt, instr_no_decl k h)))) model_to (record {
      made = λ t. record { of = (t.at, (t.decls, (t.instr, t.search))); is = refl };
      marks = λ c. marks_model-is (model_to c) ∙ ap (λ ms. mk.place c.0 ∷ (mk.joined (map marks_decl c.1.0) ++ (marks_instr c.1.1.0 ++ ms))) (written_maybe search_shape c.1.1.1);
      view = λ x. tt;
      tag = λ c. refl;
      closes = λ k h. (tt, h);
      begins = λ F k h. h;
    }) (gm.model r u v) (gm.model s u' v') (model_is r u v) (model_is s u' v')

-- ---- a model, and nothing behind it

whole_is : (n : ℕ) (i : Input) → gm.whole_within n i ≡ whole_of (gm.model (g.rules n) (gi.item_rules n) (gs.statement_rules n)) i
unfolding gm.whole_within
whole_is n i = refl

-- with which a model begins
abbrev pub starts_model : (Option Kind → Type 0) → Option Kind → Type 0
starts_model F k = (starts_decl k ≡ true) ⊎ starts_instr k

-- the grammar of models, over so many levels
pub model_grammar : Grammar marks_model starts_model gm.whole_within
model_grammar = whole_grammar (λ n. gm.model (g.rules n) (gi.item_rules n) (gs.statement_rules n)) (λ n k h. model_law (rules_law n k h) (item_laws n k h) (statement_laws n k h)) refl gm.whole_within whole_is
