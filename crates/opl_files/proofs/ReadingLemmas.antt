-- From the bytes of the files of a call to their trees.
use Rattle.std.proofs.Common.{◌≡◌, ◌≢◌, refl, sym, ap, ◌∙◌, subst, ℕ, List, Option, Some, None, Result, Ok, Err, inl, inr, arith}
use Rattle.opl_reader_laws.proofs.Laws.{one_tree, tree_or_stop, one_stop, one_opening, deep_or_tree}
use Rattle.opl_reader_laws.proofs.Whole.{Grammar}
use Rattle.opl_grammar.specs.Input.{Parser}
use Rattle.opl_grammar.specs.Model.{whole_within}
use Rattle.opl_parse.proofs.Modelled.{starts_model, model_grammar}
use Rattle.opl_tree.specs.Marks.{Marks, marks_model}
use Rattle.opl_token.specs.declared.token.Kind.{Kind}
use Rattle.opl_tree.specs.declared.model.ModelTree.{ModelTree}
use Rattle.opl_token.proofs.Unique.{one_scan, no_fault, one_fault}
use Rattle.opl_token.specs.declared.fault.ScanFault.{ScanFault}
use Rattle.opl_token.specs.declared.fault.ScanFault.TheVariants as scan
use Rattle.opl_token.specs.declared.token.Token.{Token}
use Rattle.opl_type_rules.specs.declared.fault.TypeFault.{TypeFault}
use Rattle.opl_type_rules.specs.Types.{Sort}
use Rattle.opl_data.proofs.Files.{starts_file, data_grammar}
use Rattle.opl_data.specs.Grammar as data_files
use Rattle.opl_data.specs.Marks.{marks_file}
use Rattle.opl_data.specs.declared.tree.DataTree.{DataTree}
use Rattle.opl_files.specs.declared.refusal.Fault.TheVariants.{Syntax, TooDeep}
use Rattle.opl_files.specs.declared.refusal.Refusal.{Refusal}
use Rattle.opl_files.specs.declared.refusal.Refusal.TheVariants.{At}
use Rattle.opl_files.specs.declared.scanning.Tokens.{Tokens}
use Rattle.opl_files.specs.declared.stop.Stop.{Stop}
use Rattle.opl_files.specs.Reading.{refusal_of_scan, beside, Scanned, IsSyntaxFault, TreeOf, Parsed, DataParsed, HasTypes, refusal_of_type, Understood, Read}
use Rattle.opl_files.specs.Stage.{Stage, Then, Only, Each, Gives}
use Rattle.opl_files.proofs.StageLemmas.{IsOne, each_one, only_one, then_one, then-gives, then-stops}
use Rattle.opl_tree.specs.Depth.{max_nesting}

-- behind the model's tree and those of the data files come the types
abbrev Behind : Tokens → List Tokens → ModelTree → Stage (ModelTree × List DataTree)
Behind tokens more tree = Then (Each DataParsed 1 more) (λ files. Then (HasTypes tree) (λ t. Only (t, files)))

-- the model and the data files have trees, and typing ended so
pub understood-typed : (tokens : Tokens) (more : List Tokens) (tree : ModelTree) (files : List DataTree) (r : Result (ModelTree × List DataTree) Stop) →
    Parsed tokens (Ok tree) → Each DataParsed 1 more (Ok files) → Gives (Then (HasTypes tree) (λ t. Only (t, files))) r → Gives (Understood tokens more) r
understood-typed tokens more tree files r parsed trees h =
    then-gives (Parsed tokens) (Behind tokens more) tree r parsed (then-gives (Each DataParsed 1 more) (λ fs. Then (HasTypes tree) (λ t. Only (t, fs))) files r trees h)

-- the model has a tree, and the data files came to an end
pub understood-stops : (tokens : Tokens) (more : List Tokens) (tree : ModelTree) (stop : Stop) → Parsed tokens (Ok tree) → Gives (Each DataParsed 1 more) (Err stop) →
    Gives (Understood tokens more) (Err stop)
understood-stops tokens more tree stop parsed h =
    then-gives (Parsed tokens) (Behind tokens more) tree (Err stop) parsed (then-stops (Each DataParsed 1 more) (λ fs. Then (HasTypes tree) (λ t. Only (t, fs))) stop h)

-- all have trees, and typing ended
pub understood-untyped : (tokens : Tokens) (more : List Tokens) (tree : ModelTree) (files : List DataTree) (stop : Stop) → Parsed tokens (Ok tree) →
    Each DataParsed 1 more (Ok files) → Gives (HasTypes tree) (Err stop) → Gives (Understood tokens more) (Err stop)
understood-untyped tokens more tree files stop parsed trees h =
    understood-typed tokens more tree files (Err stop) parsed trees (then-stops (HasTypes tree) (λ t. Only (t, files)) stop h)

-- all have trees, the model's with types
pub understood-all : (tokens : Tokens) (more : List Tokens) (tree t : ModelTree) (files : List DataTree) → Parsed tokens (Ok tree) →
    Each DataParsed 1 more (Ok files) → HasTypes tree (Ok t) → Understood tokens more (Ok (t, files))
understood-all tokens more tree t files parsed trees h = inl (tree, parsed, inl (files, trees, inl (t, h, refl)))

-- all have trees, and typing came to this
pub understood-beside : (tokens : Tokens) (more : List Tokens) (tree : ModelTree) (files : List DataTree) (r : Result ModelTree Stop) → Parsed tokens (Ok tree) →
    Each DataParsed 1 more (Ok files) → Gives (HasTypes tree) r → Gives (Understood tokens more) (beside files r)
understood-beside tokens more tree files (Ok t) parsed trees h = understood-all tokens more tree t files parsed trees h
understood-beside tokens more tree files (Err stop) parsed trees h = understood-untyped tokens more tree files stop parsed trees h

-- the same of their bytes and tokens
pub read-gives : (bytes : List ℕ) (more : List (List ℕ)) (tokens : Tokens) (others these : List Tokens) (r : Result (ModelTree × List DataTree) Stop) → these ≡ others →
    Scanned 0 bytes (Ok tokens) → Each Scanned 1 more (Ok others) → Gives (Understood tokens these) r → Gives (Read bytes more) r
read-gives bytes more tokens others these r same scanned all h =
    then-gives (Scanned 0 bytes) (λ ts. Then (Each Scanned 1 more) (Understood ts)) tokens r scanned (then-gives (Each Scanned 1 more) (Understood tokens) others r all (subst (λ ts. Gives (Understood tokens ts) r) same h))

not_memory : (file : ℕ) (fault : ScanFault) (e : Refusal) → refusal_of_scan file fault ≡ Some e → fault ≢ scan.OutOfMemory
not_memory file fault e h none = let no : None ≡ Some e = subst (λ f. refusal_of_scan file f ≡ Some e) none h in absurd (cc)

abbrev made : List Token → ℕ → Tokens
made list end = record { list = list; end = end }

same_tokens : (t u : Tokens) → t.list ≡ u.list → t.end ≡ u.end → t ≡ u
same_tokens t u lists ends = ap (λ (l : List Token). made l t.end) lists ∙ ap (λ (n : ℕ). made u.list n) ends

scanned_one : (file : ℕ) (bytes : List ℕ) → IsOne (Scanned file bytes)
scanned_one file bytes (Ok t) (Ok u) p q = ap Ok (same_tokens t u (one_scan bytes t.list u.list p.0 q.0) (p.1 ∙ sym q.1))
scanned_one file bytes (Ok t) (Err e) p q = absurd (not_memory file q.0 e q.1 (no_fault bytes t.list q.0 p.0 q.2))
scanned_one file bytes (Err e) (Ok u) p q = absurd (not_memory file p.0 e p.1 (no_fault bytes u.list p.0 q.0 p.2))
scanned_one file bytes (Err e) (Err f) p q =
    let same : p.0 ≡ q.0 = one_fault bytes p.0 q.0 p.2 q.2 (not_memory file p.0 e p.1) (not_memory file q.0 f q.1) in
    let both : Some e ≡ Some f = sym p.1 ∙ ap (refusal_of_scan file) same ∙ q.1 in
    let one : e ≡ f = cc in ap Err one

-- the tokens of a file come to one tree or to one fault
module _ {T : Type 0} (marks : T → Marks) (begins : (Option Kind → Type 0) → Option Kind → Type 0) (read : ℕ → Parser T) (G : Grammar marks begins read) (file : ℕ) (tokens : Tokens) where
  not_both : (t : T) (e : Refusal) → TreeOf marks file tokens (Ok t) → IsSyntaxFault marks file tokens e → ⊥
  not_both t e p (inl q) = tree_or_stop marks begins read G tokens.list tokens.end t q.0 p.0 q.2
  not_both t e p (inr q) = let deep = deep_or_tree marks begins read G max_nesting tokens.list tokens.end t q.0 p.0 q.2 in let shallow = p.1 in omega arith

  one_syntax_fault : (e f : Refusal) → IsSyntaxFault marks file tokens e → IsSyntaxFault marks file tokens f → e ≡ f
  one_syntax_fault e f (inl p) (inl q) = p.1 ∙ (ap (At Syntax file) (one_stop marks begins read G tokens.list tokens.end p.0 q.0 p.2 q.2) ∙ sym q.1)
  one_syntax_fault e f (inl p) (inr q) = absurd (p.3 q.0 q.2)
  one_syntax_fault e f (inr p) (inl q) = absurd (q.3 p.0 p.2)
  one_syntax_fault e f (inr p) (inr q) = p.1 ∙ (ap (At TooDeep file) (one_opening marks begins read G max_nesting tokens.list p.0 q.0 p.2 q.2) ∙ sym q.1)

  tree_one : IsOne (TreeOf marks file tokens)
  tree_one (Ok t) (Ok u) p q = ap Ok (one_tree marks begins read G tokens.list tokens.end t u p.0 q.0)
  tree_one (Ok t) (Err e) p q = absurd (not_both t e p q)
  tree_one (Err e) (Ok u) p q = absurd (not_both u e q p)
  tree_one (Err e) (Err f) p q = ap Err (one_syntax_fault e f p q)

parsed_one : (tokens : Tokens) → IsOne (Parsed tokens)
parsed_one tokens = tree_one marks_model starts_model whole_within model_grammar 0 tokens

data_parsed_one : (file : ℕ) (tokens : Tokens) → IsOne (DataParsed file tokens)
data_parsed_one file tokens = tree_one marks_file starts_file data_files.whole_within data_grammar file tokens

typed_one : (tree : ModelTree) → IsOne (HasTypes tree)
typed_one tree (Ok t) (Ok u) p q = ap Ok (p.0 ∙ sym q.0)
typed_one tree (Ok t) (Err e) p q = let no : ◌≡◌ {A = Result (List Sort) TypeFault} (Ok p.1) (Err q.0) = sym p.2 ∙ q.2 in absurd (cc)
typed_one tree (Err e) (Ok u) p q = let no : ◌≡◌ {A = Result (List Sort) TypeFault} (Ok q.1) (Err p.0) = sym q.2 ∙ p.2 in absurd (cc)
typed_one tree (Err e) (Err f) p q =
    let both : ◌≡◌ {A = Result (List Sort) TypeFault} (Err p.0) (Err q.0) = sym p.2 ∙ q.2 in
    let same : p.0 ≡ q.0 = cc in
    let told : Some e ≡ Some f = sym p.1 ∙ (ap refusal_of_type same ∙ q.1) in
    let one : e ≡ f = cc in ap Err one

understood_one : (tokens : Tokens) (more : List Tokens) → IsOne (Understood tokens more)
understood_one tokens more = then_one (Parsed tokens) _ (parsed_one tokens) (λ tree.
    then_one (Each DataParsed 1 more) _ (each_one DataParsed data_parsed_one 1 more) (λ files. then_one (HasTypes tree) _ (typed_one tree) (λ t. only_one (t, files))))

pub read_one : (bytes : List ℕ) (more : List (List ℕ)) → IsOne (Read bytes more)
read_one bytes more = then_one (Scanned 0 bytes) _ (scanned_one 0 bytes) (λ tokens.
    then_one (Each Scanned 1 more) _ (each_one Scanned scanned_one 1 more) (understood_one tokens))
