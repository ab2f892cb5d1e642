use Rattle.std.proofs.Common.{List, ◌∙◌, map, string_bytes, subst, codes, option_map}
use Rattle.std.proofs.lemmas.Option.{MatchOption-at_none, MatchOption-at_some}
use Rattle.clap.specs.Matches.{found_of}
use Rattle.clap.specs.Walk.{rows_of}
use Rattle.clap.proofs.WalkLemmas.{first_value-rows, one_text-rows}
use Rattle.opl_words.specs.Commands.{Parses}
use Rattle.opl_words.specs.Readings.{files_of}
use Rattle.opl_words.specs.Requests.{Word}
use Rattle.opl_words.proofs.Whole.{all_texts, solve_found, solve_refused}
use Rattle.opl_words.proofs.given.solve_words.Goals as goal

pub returns-in_ok-files_of-in-Some : goal.returns-in_ok-files_of-in-Some
returns-in_ok-files_of-in-Some c =
    let words : List Word = map (λ word. string_bytes word) c.args.words.now in
    let parses = subst (λ a. Parses a words c.in_ok-matches.field-0) c.in_ok-solve_command.ensures c.in_ok-matches.ensures in
    let taken = MatchOption-at_some _ _ c.in-Some.matches c.in-Some.is parses in
    let found = found_of c.in-Some.matches in
    let text = one_text-rows found (codes "improving") in
    solve_found words (all_texts c.args.words.now) (option_map (λ s. s.now) c.get_str.result) (option_map (λ s. s.now) c.get_str-in-Some.result) c.get_flag.result
    (files_of c.in_ok-files_of-in-Some.field-0) (rows_of found) taken.0 taken.1
    (c.get_str.ensures ∙ first_value-rows found (codes "limit")) (c.get_str-in-Some.ensures ∙ first_value-rows found (codes "budget"))
    ((λ e. c.get_flag.ensures.value (text ∙ e)), (λ e. c.get_flag.ensures.other (text ∙ e)))
    c.in_ok-files_of-in-Some.ensures

pub returns-in-None : goal.returns-in-None
returns-in-None c =
    let words : List Word = map (λ word. string_bytes word) c.args.words.now in
    let parses = subst (λ a. Parses a words c.in_ok-matches.field-0) c.in_ok-solve_command.ensures c.in_ok-matches.ensures in
    solve_refused words (all_texts c.args.words.now) (MatchOption-at_none _ _ c.in-None.is parses)
