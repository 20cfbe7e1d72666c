-- Behind a statement each cell holds what it held, but those of places that it names.
use Rattle.std.proofs.Common.{◌≡◌, refl, sym, ap, ◌∙◌, ℕ, suc, Bool, true, false, List, [], ◌∷◌, Option}
use Rattle.std.specs.Prelude.{nat_eq, if◌then◌else◌, Some, None}
use Rattle.std.proofs.lemmas.Bool.{false≢true, eq-eqb, eqb-true}
use Rattle.std.proofs.lemmas.Option.{none-some}
use Rattle.nim_types.specs.Types.{Ty}
use Rattle.nim_program.specs.Program.{Stmt, Body, Proc, Program}
use Rattle.nim_program.specs.Folds.{lists, total_in, own_places, node_numbers}
use Rattle.nim_program.specs.Fitting.{is_in}
use Rattle.nim_program.specs.Numbering.{is_numbered_program, numbers_of}
use Rattle.nim_program.specs.Scopes.{Placed, look}
use Rattle.nim_program.specs.Typed.{IsTyped, Around, own_types}
use Rattle.nim_plan.specs.declared.plan.Plan.{Plan}
use Rattle.nim_meaning.specs.Here.{Here}
use Rattle.nim_meaning.specs.LeftOut.{first_left_out}
use Rattle.nim_meaning.specs.Meaning.{exec, calls}
use Rattle.decl_rules.specs.Occurrences.{Occurrence, global, calls as calls_it, hands, in_stmt}
use Rattle.decl_rules.specs.Whole.{names, is_named}
use Rattle.decl_rules.specs.Naming.{NamesFound}
use Rattle.lending_laws.specs.Apart.{HandsUnnamed, AreLentApart}
use Rattle.holders.specs.Asked.{FactsOfTheirSort}
use Rattle.holders.specs.Evaluating.{seen_of}
use Rattle.holders.specs.BodyParts.{NoneNamed}
use Rattle.holders.specs.Holdings.{own_named, only_named, naming, scope_with, body_at, StatementOf, KeepsUnnamed}
use Rattle.holders.proofs.PartsInTurn.{in_is}
use Rattle.holders.proofs.SitesAsked.{AllOccur, names_of}
use Rattle.holders.proofs.AskedParts.{all_among}
use Rattle.holders.proofs.AskedStmts.{stmt_asked}
use Rattle.holders.proofs.BodyBlocks.{stmt_so}
use Rattle.holders.proofs.CallStarts.{calls_give}
use Rattle.holders.proofs.NamedPlaces.{SameAt, stmt_same}
use Rattle.holders.proofs.OthersStay.{others_kept}
use Rattle.holders.proofs.WholeRuns.{Asks, InProgram, more_places, calls_at, bodies_so, kept as kept_by, declared}

-- ---- the places that are named

-- of those in scope that are named the same is known
look_named : (seen : ℕ → Bool) (ps : List Placed) (n : ℕ) → seen n ≡ true → look (seen_of seen ps) n ≡ look ps n
look_named seen [] n s = refl
look_named seen (p ∷ ps) n s = by (seen p.number) refl (nat_eq p.number n) refl (look_named seen ps n s)
  where
    by : (c : Bool) → seen p.number ≡ c → (b : Bool) → nat_eq p.number n ≡ b → look (seen_of seen ps) n ≡ look ps n →
        look (if c then p ∷ seen_of seen ps else seen_of seen ps) n ≡ look (p ∷ ps) n
    by true e b q rest = ap (λ (o : Option Ty). if nat_eq p.number n then Some p.of else o) rest
    by false e true q rest = absurd (false≢true (sym e ∙ (ap seen (eqb-true p.number n q) ∙ s)))
    by false e false q rest = rest ∙ sym (ap (λ c. if c then Some p.of else look ps n) q)

-- and no others are in scope
look_back : (seen : ℕ → Bool) (ps : List Placed) (n : ℕ) {ty : Ty} → look (seen_of seen ps) n ≡ Some ty → look ps n ≡ Some ty
look_back seen ps n {ty} e = by (seen n) refl
  where
    none : (ps : List Placed) → seen n ≡ false → look (seen_of seen ps) n ≡ None
    none [] s = refl
    none (p ∷ ps) s = turn (seen p.number) refl (nat_eq p.number n) refl (none ps s)
      where
        turn : (c : Bool) → seen p.number ≡ c → (b : Bool) → nat_eq p.number n ≡ b → look (seen_of seen ps) n ≡ None →
            look (if c then p ∷ seen_of seen ps else seen_of seen ps) n ≡ None
        turn true q true r rest = absurd (false≢true (sym s ∙ (sym (ap seen (eqb-true p.number n r)) ∙ q)))
        turn true q false r rest = ap (λ b. if b then Some p.of else look (seen_of seen ps) n) r ∙ rest
        turn false q b r rest = rest

    by : (b : Bool) → seen n ≡ b → look ps n ≡ Some ty
    by true s = sym (look_named seen ps n s) ∙ e
    by false s = absurd (none-some ty (sym (none ps s) ∙ e))

-- ---- the globals

module _ (procs : List Proc) (found : NamesFound) where
  abbrev names_it : List Occurrence → ℕ → Bool
  names_it os g = is_named g (λ proc. names procs g proc) os

  global_first : (place : ℕ) (rest : List Occurrence) → names_it (global place ∷ rest) place ≡ true
  global_first place rest = ap (λ b. if b then true else names_it rest place) (eq-eqb place place refl)

  call_first : (proc g : ℕ) (rest : List Occurrence) → names procs g proc ≡ true → names_it (calls_it proc ∷ rest) g ≡ true
  call_first proc g rest e = ap (λ b. if b then true else names_it rest g) e

  one_later : (o : Occurrence) (rest : List Occurrence) (g : ℕ) → names_it rest g ≡ true → names_it (o ∷ rest) g ≡ true
  one_later (global place) rest g e = by (nat_eq g place)
    where
      by : (b : Bool) → (if b then true else names_it rest g) ≡ true
      by true = refl
      by false = e
  one_later (calls_it proc) rest g e = by (names procs g proc)
    where
      by : (b : Bool) → (if b then true else names_it rest g) ≡ true
      by true = refl
      by false = e
  one_later (hands proc at place) rest g e = e

  -- all that occurs is among what is named
  all_occur : (seen : ℕ → Bool) (os : List Occurrence) → ((g : ℕ) → names_it os g ≡ true → seen g ≡ true) → HandsUnnamed procs os →
      AllOccur (names_of procs) seen os
  all_occur seen [] h unnamed = tt
  all_occur seen (global place ∷ rest) h unnamed = (
    h place (global_first place rest),
    all_occur seen rest (λ g e. h g (one_later (global place) rest g e)) unnamed,
  )
  all_occur seen (calls_it proc ∷ rest) h unnamed = (
    λ g e. h g (call_first proc g rest e),
    all_occur seen rest (λ g e. h g (one_later (calls_it proc) rest g e)) unnamed,
  )
  all_occur seen (hands proc at place ∷ rest) h unnamed = (
    λ e. unnamed.0 ((found procs place proc).0 e),
    all_occur seen rest (λ g e. h g (one_later (hands proc at place) rest g e)) unnamed.1,
  )

-- ---- a statement

module _ (program : Program) (plan : Plan) (typed : IsTyped program) (numbered : is_numbered_program program ≡ true) (lends : AreLentApart program)
    (built : first_left_out program ≡ None) (sorted : FactsOfTheirSort program.facts) (found : NamesFound) (left level : ℕ) (body : Body) (filled : ℕ)
    (places : List Placed) (kept : ℕ → Bool) (around : Around) (stmt : Stmt) where
  abbrev here : Here
  here = body_at program plan left level body

  abbrev seen : ℕ → Bool
  seen n = is_in n (total_in lists own_named stmt)

  pub unnamed_kept : StatementOf program here body filled places kept around stmt → KeepsUnnamed program here body filled places kept stmt
  unnamed_kept x =
      let scope = scope_with program filled (only_named stmt places) in
      let limits = naming program.procs kept stmt in
      let same : SameAt (only_named stmt places) places (total_in lists own_named stmt) =
      λ n m. look_named seen places n (in_is n (total_in lists own_named stmt) m) in
      let typed_there = stmt_same (scope_with program filled []) (only_named stmt places) places around stmt same ∙ x.typed in
      others_kept here body.first body.places scope limits (numbers_of (total_in lists own_places stmt)) (total_in lists node_numbers stmt) (exec stmt here)
      (stmt_so here body.first body.places sorted (Asks program plan typed numbered lends built sorted found)
      (InProgram program plan typed numbered lends built sorted found) (more_places program plan typed numbered lends built sorted found)
      (calls_at program plan typed numbered lends built sorted found level (calls program plan left (suc level)) body
      (calls_give program (names_of program.procs) (kept_by program plan typed numbered lends built sorted found) plan
      (bodies_so program plan typed numbered lends built sorted found) left (suc level)) body.first body.places)
      scope (filled, (only_named stmt places, refl)) limits (λ n. refl) around x.gives stmt typed_there
      (stmt_asked program.types program.facts typed.forms (declared program plan typed numbered lends built sorted found) (names_of program.procs) scope
      refl refl limits (λ n. refl) around stmt typed_there x.built (all_among program.types (total_in lists own_types stmt) x.types) x.lends
      (all_occur program.procs found (limits.seen true) (in_stmt stmt) (λ g e. e) x.hands))
      (record {
        from_node = x.numbered.from_node;
        nodes = x.numbered.nodes;
        from_place = x.numbered.from_place;
        rises = x.numbered.rises;
        bounds = x.numbered.bounds;
        none = none;
      }))
    where
      none : NoneNamed here (scope_with program filled (only_named stmt places)) (naming program.procs kept stmt)
          (numbers_of (total_in lists own_places stmt))
      none true n ty s e q m = x.numbered.none true n ty s e q m
      none false n ty s e q m = x.numbered.none false n ty s (look_back seen places n e) q m
