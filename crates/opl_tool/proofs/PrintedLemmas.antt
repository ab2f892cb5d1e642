-- What was printed, and how it answers.
use Rattle.std.proofs.Common.{◌≡◌, ◌<◌, refl, sym, ◌∙◌, subst, ℕ, nat_eq, ℤ, Bool, true, false, List, [], ◌∷◌, ◌++◌, Bor, Option, Some, Result, Ok, Err, arith}
use Rattle.std.proofs.lemmas.Bool.Decides.{nat_tests}
use Rattle.std.proofs.lemmas.List.{append-nil}
use Rattle.opl_expr.specs.declared.model.Core.{Core}
use Rattle.opl_generate.specs.Texts.{head_text}
use Rattle.opl_ground_text.specs.Texts.{constraints_heading, variables_heading}
use Rattle.opl_meaning.specs.declared.variable.VariableItem.{VariableItem}
use Rattle.opl_outside.proofs.Becomes.{becomes_same}
use Rattle.opl_outside.specs.Counts.{Counts}
use Rattle.opl_outside.specs.Written.{Puts}
use Rattle.opl_outside.specs.declared.error.OutsideError.{OutsideError}
use Rattle.opl_outside.specs.declared.error.OutsideError.TheVariants.{Failed}
use Rattle.opl_solve.proofs.PrintingLemmas.{put-prints}
use Rattle.opl_solve.specs.Printing.{Prints}
use Rattle.opl_show.specs.declared.ending.Last.{Last}
use Rattle.opl_show.specs.declared.ending.Last.TheVariants as ends
use Rattle.opl_show.specs.Readings.{names_of}
use Rattle.opl_solve.specs.Texts.{alone, closing_of, counted, count_from, ending, found, last_from, search_text, shown, shown_of}
use Rattle.opl_solve.specs.declared.show.Showing.{Showing}
use Rattle.opl_solve.specs.declared.show.Shown.{Shown}
use Rattle.opl_trace.specs.Marks.{core_trace, objective}
use Rattle.opl_trace.specs.Run.{Out}
use Rattle.opl_words.specs.declared.call.Generated.{Generated}
use Rattle.opl_words.specs.declared.call.Searching.{Searching}
use Rattle.opl_words.specs.Requests.{default_budget}
use Rattle.opl_tool.specs.declared.answer.Answer.{Answer}
use Rattle.opl_tool.specs.declared.ended.Ended.{Ended}
use Rattle.opl_tool.specs.declared.ended.Ended.TheVariants.{Done, NoSolution}
use Rattle.opl_files.specs.declared.stop.Stop.{Stop}
use Rattle.opl_files.specs.declared.stop.Stop.TheVariants.{Refused, Spent, ReadFault, WriteFault, OutOfMemory}
use Rattle.opl_tool.specs.Printed.{IsThrough, PrintsStop, Reaches, ended_with}
use Rattle.opl_tool.specs.Tasks.{all_each, made_text, search_answer, showing_of, solve_text, trace_answer}

counted_some : (n : ℕ) → 0 < counted n
counted_some n = omega arith

count_some : (shown : ℕ) (xs : List (List ℤ)) → 0 < shown → 0 < count_from shown xs
unfolding count_from
count_some shown [] h = h
count_some shown (x ∷ xs) h = count_some (counted shown) xs (counted_some shown)

-- of solutions that are found some are shown
last_some : (ns : List ℤ) (rest : List (List ℤ)) → 0 < count_from 0 (alone (last_from (Some ns) rest))
unfolding count_from
last_some ns [] = counted_some 0
last_some ns (ms ∷ rest) = last_some ms rest

shown_some : (is_each : Bool) (ns : List ℤ) (rest : List (List ℤ)) → 0 < count_from 0 (shown is_each (ns ∷ rest))
unfolding count_from
shown_some true ns rest = count_some (counted 0) rest (counted_some 0)
shown_some false ns rest = last_some ns rest

shown_none : (is_each : Bool) → count_from 0 (shown is_each []) ≡ 0
unfolding count_from
shown_none true = refl
shown_none false = refl

no_solution : (n : ℕ) → n ≡ 0 → ended_with n ≡ NoSolution
no_solution n none = rw none refl

some_solution : (n : ℕ) → 0 < n → ended_with n ≡ Done
some_solution n some =
    let t : nat_eq n 0 ≡ false = grind (arith, nat_tests, some) in
    rw t refl

-- an answer that is reached, and an ending that is the same
pub reaches : (a : Answer) (e f : Ended) → e ≡ f → Reaches a (Ok f) → Reaches a (Ok e)
reaches a e f same h = subst (λ (ended : Ended). Reaches a (Ok ended)) (sym same) h

-- how a search ends that was not cut
uncut_end : (is_each : Bool) (list : List (List ℤ)) (n : ℕ) → n ≡ count_from 0 (shown is_each list) → Reaches (search_answer ends.End list) (Ok (ended_with n))
uncut_end is_each [] n same = rw (no_solution n (same ∙ shown_none is_each)) refl
uncut_end is_each (ns ∷ rest) n same = rw (some_solution n (subst (λ (k : ℕ). 0 < k) (sym same) (shown_some is_each ns rest))) refl

uncut_limit : (is_each : Bool) (list : List (List ℤ)) (n : ℕ) → n ≡ count_from 0 (shown is_each list) → Reaches (search_answer ends.Limit list) (Ok (ended_with n))
uncut_limit is_each [] n same = rw (no_solution n (same ∙ shown_none is_each)) refl
uncut_limit is_each (ns ∷ rest) n same = rw (some_solution n (subst (λ (k : ℕ). 0 < k) (sym same) (shown_some is_each ns rest))) refl

module _ (showing : Showing) (out : Out) where
  pub ended-end : (last : Last) (n : ℕ) → last ≡ ends.End → n ≡ count_from 0 (shown_of showing out) → last ≡ ending showing.limit out → Reaches (trace_answer showing.limit out) (Ok (ended_with n))
  ended-end last n is same ended =
      subst (λ (l : Last). Reaches (search_answer l (found showing.limit out)) (Ok (ended_with n))) (sym is ∙ ended) (uncut_end showing.is_each (found showing.limit out) n same)

  pub ended-limit : (last : Last) (n : ℕ) → last ≡ ends.Limit → n ≡ count_from 0 (shown_of showing out) → last ≡ ending showing.limit out → Reaches (trace_answer showing.limit out) (Ok (ended_with n))
  ended-limit last n is same ended =
      subst (λ (l : Last). Reaches (search_answer l (found showing.limit out)) (Ok (ended_with n))) (sym is ∙ ended) (uncut_limit showing.is_each (found showing.limit out) n same)

  pub ended-spent : (last : Last) → last ≡ ends.Spent → last ≡ ending showing.limit out → Reaches (trace_answer showing.limit out) (Err Spent)
  ended-spent last is ended = subst (λ (l : Last). Reaches (search_answer l (found showing.limit out)) (Err Spent)) (sym is ∙ ended) refl

-- the whole text was printed
pub whole-prints : {A : Type 0} (text : List ℕ) (old new : Option (List ℕ)) (before now : ℕ) (shown : A) (r : Result Ended Stop) → IsThrough r →
    Prints {A = A} text old new before now (Ok shown) → PrintsStop text old new before now r
whole-prints text old new before now shown (Ok ended) h p = record { written = p.written; faults = p.faults }
whole-prints text old new before now shown (Err (Refused e)) h p = absurd h
whole-prints text old new before now shown (Err Spent) h p = record { written = p.written; faults = p.faults }
whole-prints text old new before now shown (Err ReadFault) h p = absurd h
whole-prints text old new before now shown (Err WriteFault) h p = absurd h
whole-prints text old new before now shown (Err OutOfMemory) h p = absurd h

failed_prints : (text : List ℕ) (old new : Option (List ℕ)) (before now : ℕ) → Prints {A = Unit {0}} text old new before now (Err Failed) →
    PrintsStop {A = Ended} text old new before now (Err WriteFault)
failed_prints text old new before now p = record { written = p.written; faults = p.faults }

-- the sink failed
pub failed-prints : (text : List ℕ) (old new : Option (List ℕ)) (before now : ℕ) (e : OutsideError) → e ≡ Failed → Puts {A = Unit {0}} old new text (Err e) →
    Counts {A = Unit {0}} before now (Err e) → PrintsStop {A = Ended} text old new before now (Err WriteFault)
failed-prints text old new before now e is p c = failed_prints text old new before now (put-prints text old new before now (Err Failed) (rw is at p) (rw is at c))

-- memory was wanting before anything was printed
pub nothing-prints : (text : List ℕ) (o : Option (List ℕ)) (faults : ℕ) → PrintsStop {A = Ended} text o o faults faults (Err OutOfMemory)
nothing-prints text o faults = record {
  written = becomes_same o _ (λ x. record { front = []; rest = text; gained = sym (append-nil x); whole = refl });
  faults = refl;
}

-- printing a search, from what its parts are to what a command prints
pub search-prints : (s : Searching) (core seen own : Core) (showing : Showing) (trace : Out) (enumerations names : List (List (Bor (List ℕ)))) (variables items : List VariableItem)
    (old new : Option (List ℕ)) (before now : ℕ) (r : Result Shown OutsideError) →
    showing ≡ showing_of s seen → seen ≡ core → own ≡ core → trace ≡ core_trace false core s.budget → names ≡ enumerations → items ≡ variables →
    Prints (search_text (objective own) (names_of names) items showing trace) old new before now r →
    Prints (solve_text s (names_of enumerations) variables core) old new before now r
search-prints s core seen own showing trace enumerations names variables items old new before now r a b c d e f p = rw (a, b, c, d, e, f) at p

-- printing a summary
pub made-prints : (g : Generated) (core own : Core) (head slice : List ℕ) (trace : Out) (old new : Option (List ℕ)) (before now : ℕ) (r : Result Shown OutsideError) →
    slice ≡ head → head ≡ head_text g ++ variables_heading core ++ constraints_heading core → own ≡ core → trace ≡ core_trace false core default_budget →
    Prints (slice ++ closing_of (objective own) all_each trace) old new before now r → Prints (made_text g core) old new before now r
made-prints g core own head slice trace old new before now r a b c d p = rw (a, b, c, d) at p
