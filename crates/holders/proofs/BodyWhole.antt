-- A body as a whole: its block keeps to the body's cells, and nothing waits behind it.
use Rattle.std.proofs.Common.{◌≡◌, refl, sym, subst, ◌∙◌, arith, ℕ, ◌+◌, ◌≤◌, inl, inr, Bool, true, false, List, [], ◌∷◌, ◌++◌, length}
use Rattle.nim_program.specs.Program.{Args, Declared, Body}
use Rattle.nim_program.specs.Folds.{block_nodes, block_places}
use Rattle.nim_program.specs.Numbering.{numbers_of}
use Rattle.nim_program.specs.Scopes as scopes
use Rattle.nim_program.specs.Scopes.{with_place}
use Rattle.nim_program.specs.Typed.{Around, is_typed_block, type_of_place}
use Rattle.nim_meaning.specs.Values.{Base, Standing, Waiting, InBlock, InHand, InException, Made}
use Rattle.nim_meaning.specs.Marks.{Member}
use Rattle.nim_meaning.specs.State.{World}
use Rattle.nim_meaning.specs.Here.{Here}
use Rattle.nim_meaning.specs.Meaning.{exec_all}
use Rattle.holders.specs.Territory.{Owner}
use Rattle.holders.specs.Running.{IsBelow, IsOutside, Wider}
use Rattle.holders.specs.Staging.{Stage}
use Rattle.holders.specs.Called.{NotRaised, LeftBy}
use Rattle.holders.specs.Asked.{Limits, AskedBlock, FactsOfTheirSort}
use Rattle.holders.specs.Claimed.{body_region, known_at}
use Rattle.holders.specs.Procedures.{OwnPlace, BodySo}
use Rattle.holders.specs.BodyParts.{part_region, PartBegins, Sights, Over}
use Rattle.holders.specs.Numbered.{Numbered}
use Rattle.holders.proofs.Working.{all_both, all_so, among_first}
use Rattle.holders.proofs.Coming.{comes_weaker}
use Rattle.holders.proofs.Framing.{absorbed}
use Rattle.holders.proofs.PartsInTurn.{is_member}
use Rattle.holders.proofs.WholeExpressions.{CallsSo}
use Rattle.holders.proofs.BodyParts.{place_outside}
use Rattle.holders.proofs.BodyBlocks.{block_so}

-- nothing is in it
none_in : (ns : List ℕ) → ((n : ℕ) → Member n ns → ⊥) → ns ≡ []
none_in [] h = refl
none_in (n ∷ ns) h = absurd (h n (inl refl))

below_outside : (level : ℕ) (ps ns : List ℕ) (b : Base) → IsBelow level b → IsOutside (part_region level ps ns) b
below_outside level ps ns (Standing l n) h = inl h
below_outside level ps ns (Waiting l node) h = inl h
below_outside level ps ns (InBlock k) h = tt
below_outside level ps ns (InHand i) h = tt
below_outside level ps ns (InException i) h = tt
below_outside level ps ns (Made v) h = tt

-- all that a block has for itself is the body's own
whole_wider : (level : ℕ) (own : ℕ → Bool) (ps ns : List ℕ) → ((n : ℕ) → Member n ps → own n ≡ true) →
    Wider (body_region level own (λ n. true)) (part_region level ps ns)
whole_wider level own ps ns mine = record { outside = outside; level = refl; places = λ n e. mine n (is_member n ps e) }
  where
    outside : (b : Base) → IsOutside (body_region level own (λ n. true)) b → IsOutside (part_region level ps ns) b
    outside (Standing l n) (inl less) = inl less
    outside (Standing l n) (inr q) = inr (q.0, λ e. q.1 (mine n (is_member n ps e)))
    outside (Waiting l node) (inl less) = inl less
    outside (Waiting l node) (inr q) = absurd (q.1 refl)
    outside (InBlock k) h = tt
    outside (InHand i) h = tt
    outside (InException i) h = tt
    outside (Made v) h = tt

module _ (here : Here) (body : Body) (sorted : FactsOfTheirSort here.facts) (OfCall : Limits → ℕ → Args → Type 0) (Known : scopes.Here → Type 0)
    (known_more : (scope : scopes.Here) (place : Declared) → Known scope → Known (with_place scope place))
    (calls : (scope : scopes.Here) → Known scope → (limits : Limits) (root : (global : Bool) → ℕ → ℕ) (os : List Owner) →
    CallsSo here scope limits root body.first body.places os (OfCall limits)) where
  abbrev known : scopes.Here → scopes.Here
  known scope = known_at here scope

  pub body_comes : (scope : scopes.Here) → Known scope → (limits : Limits) → ((n : ℕ) → limits.seen false n ≡ true) → (around : Around) →
      around.gives ≡ type_of_place here.result → here.result ≡ body.result → is_typed_block (known scope) around body.stmts ≡ true →
      AskedBlock here.facts OfCall limits body.stmts →
      Numbered here body.first body.places (known scope) limits (block_places body.stmts) (block_nodes body.stmts) →
      ((n : ℕ) → Member n (numbers_of (block_places body.stmts)) → body.first + length scope.places ≤ n) → BodySo here (known scope) limits body
  body_comes scope ok limits named around gives result_is typed asked numbers behind own root ms gs s e =
      comes_weaker (λ u after. O after) (LeftBy O) (λ u after. S after) (λ way after. NotRaised way × S after) (exec_all body.stmts here s)
      (block_so here body.first body.places sorted OfCall Known known_more calls scope ok limits named around gives body.stmts typed asked numbers (ms ++ gs) []
      s b sights)
      (λ u after f. closes after f) (λ way after f. (f.0, closes after f.1))
    where
      ps : List ℕ
      ps = numbers_of (block_places body.stmts)

      ns : List ℕ
      ns = block_nodes body.stmts

      b : PartBegins here.level body.first body.places ps ns (ms ++ gs) [] s.world
      b = record {
        territory = e.territory;
        outside = all_both (λ o. IsOutside (part_region here.level ps ns) o.at.base) ms gs
            (all_so (λ m. OwnPlace here (known scope) body m) (λ m. IsOutside (part_region here.level ps ns) m.at.base) ms
            (λ m o. subst (λ c. IsOutside (part_region here.level ps ns) c) (sym o.1.0)
            (place_outside here.level o.0 ps ns (λ q. let le = behind o.0 q in let less = o.1.1 in omega (arith, le, less)))) e.cells)
            (all_so (λ g. IsBelow here.level g.at.base) (λ g. IsOutside (part_region here.level ps ns) g.at.base) gs
            (λ g h. below_outside here.level ps ns g.at.base h) e.below);
        active = e.active;
        distinct = tt;
        free = λ n m q. elim m [ ];
        deepest = e.deepest;
      }

      sights : Sights here (known scope) limits (ms ++ gs) s.world
      sights = record { root = root; scene = e.scene; result = λ place q. among_first gs (e.result place (sym result_is ∙ q)).1 }

      O : World → Type 0
      O after = Over here body.first body.places (known scope) limits ps ns (ms ++ gs) [] e.territory.blocks s.world after

      S : World → Type 0
      S after = Stage (body_region here.level own (λ n. true)) ms gs body.first body.places [] e.territory.blocks s.world after

      closes : (after : World) → O after → S after
      closes after f =
          subst (λ later. Stage (body_region here.level own (λ n. true)) ms gs body.first body.places later e.territory.blocks s.world after)
          (none_in f.later (λ n m. f.came n m))
          (absorbed ms (whole_wider here.level own ps ns (λ n m. e.declared n (behind n m))) e.mine f.stage)
