-- Where module code stands: so many globals of the program have a value. A procedure that is declared there can be called, since its body
-- comes before a further global.
use Rattle.std.proofs.Common.{◌≡◌, ℕ, ◌≤◌, Bool, true, false, List, [], ◌∷◌, ◌++◌, None, refl, sym, ap, subst, ◌∙◌, append_assoc}
use Rattle.std.specs.Prelude.{map, if◌then◌else◌, Ok}
use Rattle.std.proofs.lemmas.Bool.{le-leb}
use Rattle.arc_base.specs.declared.place.Place.{Place}
use Rattle.nim_types.specs.Types.{Facts}
use Rattle.nim_program.specs.Program.{Proc}
use Rattle.nim_program.specs.Scopes.{Here, placed, count_below, is_ready}
use Rattle.decl_rules.specs.State.{Item, announces, State}
use Rattle.decl_rules.specs.Heads.{Headed}
use Rattle.decl_rules.specs.Bodies.{announced}
use Rattle.decl_rules.specs.Whole.{text_rule}
use Rattle.typing_laws.specs.Knows.{IsCalled, with_facts}
use Rattle.typing_laws.proofs.Tests.{ever, some_one}
use Rattle.typing_laws.proofs.Text.{behind, EachBody, each_behind, in_time, asked_in_time}
use Rattle.typing_laws.proofs.Served.{Served}
use Rattle.typing_laws.proofs.Kept.{HasBody, Kept}
use Rattle.typing_laws.proofs.Headings.{called}

-- in the program that the last state is of, behind so many globals
abbrev pub standing : State → ℕ → Here
standing final n = record {
  facts = final.env.facts;
  procs = final.procs;
  globals = map placed final.globals;
  filled = n;
  places = [];
  dest = None;
}

module _ (final : State) (ended : Kept final) (ruled : text_rule final.procs final.text ≡ Ok tt) where
  -- it is announced behind this text, and these globals
  pub is_called : (text more : List Item) (at : Place) (k : Headed) (n : ℕ) (facts : Facts) → k.borrowed ≡ false
      → final.text ≡ (text ++ announced at k) ++ more → behind 0 text ≡ n → Served final.procs (called k)
      → IsCalled (with_facts (standing final n) facts) (called k)
  is_called text more at k n facts b e g served =
      let holds = HasBody final.procs final.globals final.place in
      let is : final.text ≡ text ++ announces k.number at ∷ more =
      e ∙ ap (λ xs. (text ++ xs) ++ more) (not_borrowed k.borrowed b) ∙ append_assoc text (announces k.number at ∷ []) more in
      let comes = asked_in_time final.procs text k.number at more (subst (λ t. text_rule final.procs t ≡ Ok tt) is ruled) in
      let each = each_behind holds 0 text (announces k.number at ∷ more) (subst (EachBody holds 0) is ended.reading.bodies) in
      let has = in_time holds k.number (behind 0 text) more comes each in
      let same : served.proc ≡ has.proc = some_one (sym served.there ∙ has.there) in
      record {
        proc = served.proc;
        there = served.there;
        no_hook = served.serves.no_hook;
        ready = subst (λ b. is_ready (with_facts (standing final n) facts) b ≡ true) (sym (ap (λ (p : Proc). p.body) same ∙ has.has))
            (le-leb (count_below has.body.first (map placed final.globals)) n
            (subst (λ n. count_below has.body.first (map placed final.globals) ≤ n) g has.few));
        types = served.serves.types;
        gives = served.serves.gives;
        params = served.serves.params;
      }
    where
      not_borrowed : (b : Bool) → b ≡ false → (if b then [] else announces k.number at ∷ []) ≡ announces k.number at ∷ []
      not_borrowed true e = ever e
      not_borrowed false e = refl
