use Rattle.std.proofs.Common.{List, Bor, Option, ◌≡◌, ◌∙◌, [], ap, codes, option_map, sym, Some, None}
use Rattle.std.specs.Prelude.{unwrap_or}
use Rattle.std.proofs.lemmas.Result.{IfOk-weaker}
use Rattle.clap.specs.Matches.{found_of}
use Rattle.clap.specs.Walk.{all_of, rows_of}
use Rattle.clap.proofs.WalkLemmas.{raw_values-rows}
use Rattle.opl_words.specs.Readings.{files_of}
use Rattle.opl_words.specs.Requests.{Word}
use Rattle.opl_words.proofs.given.files_of.Goals as goal

pub returns-in-Some : goal.returns-in-Some
returns-in-Some c =
    let shown : Some (files_of c.in-Some.files.now) ≡ all_of (codes "file") (rows_of (found_of c.args.matches.now)) =
    ap (option_map (λ (s : Bor (List (Bor Word))). files_of s.now)) (sym c.in-Some.is) ∙ c.get_strs.ensures ∙ raw_values-rows (found_of c.args.matches.now) (codes "file") in
    IfOk-weaker c.from_slice.result _ _ (λ files h. ap files_of h ∙ ap (λ (x : Option (List Word)). unwrap_or x []) shown) c.from_slice.ensures

pub returns-in-None : goal.returns-in-None
returns-in-None c =
    let shown : ◌≡◌ {A = Option (List Word)} None (all_of (codes "file") (rows_of (found_of c.args.matches.now))) =
    ap (option_map (λ (s : Bor (List (Bor Word))). files_of s.now)) (sym c.in-None.is) ∙ c.get_strs.ensures ∙ raw_values-rows (found_of c.args.matches.now) (codes "file") in
    ap files_of c.new.ensures ∙ ap (λ (x : Option (List Word)). unwrap_or x []) shown
