-- What a call works on parts: operands by where their paths begin, and the globals that the procedure names.
use Rattle.std.proofs.Common.{◌≡◌, refl, sym, ap, subst, ◌∙◌, arith, ℕ, zero, suc, ◌≤◌, inl, inr, Bool, true, false, List, [], ◌∷◌, ◌++◌, Some}
use Rattle.std.specs.Prelude.{◌&&◌, nat_eq, take, if◌then◌else◌}
use Rattle.std.proofs.lemmas.Bool.{and_parts, eqb-true, eq-eqb, false≢true}
use Rattle.nim_types.specs.Types.{Ty, Facts}
use Rattle.nim_program.specs.declared.operation.Use.{Use}
use Rattle.nim_program.specs.Program.{Path, Variable, Fresh, Field, Element, Deref, Args, NoArg, ByValue, ByPath, type_at, type_of}
use Rattle.nim_program.specs.Kinds.{kind_if, field_at, element_of, object_of, is_of, is_int}
use Rattle.nim_program.specs.Scopes as scopes
use Rattle.nim_program.specs.Scopes.{Placed, look, type_in}
use Rattle.nim_program.specs.Typed.{is_typed, is_typed_path, are_typed, is_whole}
use Rattle.nim_meaning.specs.Values.{Operand}
use Rattle.nim_meaning.specs.Marks.{Member, Distinct}
use Rattle.nim_meaning.specs.State.{World}
use Rattle.nim_meaning.specs.Here.{Here}
use Rattle.holders.specs.Territory.{Owner}
use Rattle.holders.specs.Ways.{Differ}
use Rattle.holders.specs.Asked.{Limits, may_write_at, may_write, AllWrite, AskedAt, AllAsked}
use Rattle.holders.specs.Evaluating.{root_at, path_steps, seen_of, Scene}
use Rattle.holders.specs.Procedures.{BeginsAt, PathsPart, AllPaths, EachPart}
use Rattle.holders.proofs.FormKinds.{same_type}
use Rattle.holders.proofs.Scenes.{numbers_in}
use Rattle.holders.proofs.WaitingTaken.{own_numbers, distinct_rest, distinct_one, Taken, none_taken, bare_taken, held_taken, lent_taken, place_taken}
use Rattle.holders.proofs.Targets.{at_node, at_root, KeysPart, AllKeys, AllKeysPart, targets_in, all_in, AllPlaced, all_placed_so}
use Rattle.holders.proofs.Targets.{GlobalAt, global_targets, global_key, all_globals, part_both}

-- ---- all paths among operands

pub all_paths_so : (P Q : Path → Type 0) (args : Args) → ((path : Path) → P path → Q path) → AllPaths P args → AllPaths Q args
all_paths_so P Q NoArg h all = tt
all_paths_so P Q (ByValue value rest) h all = all_paths_so P Q rest h all
all_paths_so P Q (ByPath path rest) h all = (h path all.0, all_paths_so P Q rest h all.1)

all_paths_two : (P Q R : Path → Type 0) (args : Args) → ((path : Path) → P path → Q path → R path) → AllPaths P args → AllPaths Q args → AllPaths R args
all_paths_two P Q R NoArg h all also = tt
all_paths_two P Q R (ByValue value rest) h all also = all_paths_two P Q R rest h all also
all_paths_two P Q R (ByPath path rest) h all also = (h path all.0 also.0, all_paths_two P Q R rest h all.1 also.1)

every_path : (P : Path → Type 0) (args : Args) → ((path : Path) → P path) → AllPaths P args
every_path P NoArg h = tt
every_path P (ByValue value rest) h = every_path P rest h
every_path P (ByPath path rest) h = (h path, every_path P rest h)

pub every_place : (P : Placed → Type 0) (ps : List Placed) → ((p : Placed) → P p) → AllPlaced P ps
every_place P [] h = tt
every_place P (p ∷ ps) h = (h p, every_place P ps h)

-- ---- where a path begins that may be written

pub record RootOf (scope : scopes.Here) (limits : Limits) (root : (global : Bool) → ℕ → ℕ) (path : Path) : Type 0 where
  pub global : Bool
  pub place : ℕ
  pub ty : Ty
  pub begins : BeginsAt path global place
  pub is : root_at root path ≡ root global place
  pub seen : limits.seen global place ≡ true
  pub there : type_in scope global place ≡ Some ty
  pub may : may_write_at limits global place ≡ true

module _ (scope : scopes.Here) (limits : Limits) (root : (global : Bool) → ℕ → ℕ) (facts : Facts) (OfCall : ℕ → Args → Type 0) where
  abbrev R : Path → Type 0
  R path = RootOf scope limits root path

  root_so : (path : Path) → is_typed_path scope path ≡ true → AskedAt facts limits OfCall path → may_write limits path ≡ true → R path
  root_so (Variable node ty place global) typed asked may =
      record { global = global; place = place; ty = ty; begins = (refl, refl); is = refl; seen = asked.1; there = same_type typed; may = may }
  root_so (Fresh value) typed asked may = absurd (false≢true may)
  root_so (Field node ty base field) typed asked may =
      let r = root_so base
      (and_parts (is_of (field_at (kind_if scope.facts (type_at base)) field) (Some ty)) (is_typed_path scope base) typed).1 asked.1.1 may in
      record { global = r.global; place = r.place; ty = r.ty; begins = r.begins; is = r.is; seen = r.seen; there = r.there; may = r.may }
  root_so (Element node ty base index constant) typed asked may =
      let r = root_so base (and_parts (is_typed_path scope base) (is_typed scope index)
      (and_parts (is_of (element_of (kind_if scope.facts (type_at base))) (Some ty) && is_int (kind_if scope.facts (type_of index)))
      (is_typed_path scope base && is_typed scope index) typed).1).0 asked.1.0 may in
      record { global = r.global; place = r.place; ty = r.ty; begins = r.begins; is = r.is; seen = r.seen; there = r.there; may = r.may }
  root_so (Deref ty base) typed asked may =
      let r = root_so base
      (and_parts (is_of (object_of (kind_if scope.facts (type_at base))) (Some ty)) (is_typed_path scope base) typed).1 asked.1 may in
      record { global = r.global; place = r.place; ty = r.ty; begins = r.begins; is = r.is; seen = r.seen; there = r.there; may = r.may }

  pub roots_so : (args : Args) → are_typed scope args ≡ true → AllAsked facts limits OfCall args → AllWrite limits args → AllPaths R args
  roots_so NoArg typed asked write = tt
  roots_so (ByValue value rest) typed asked write = roots_so rest (and_parts (is_typed scope value) (are_typed scope rest) typed).1 asked.1 write
  roots_so (ByPath path rest) typed asked write =
      let t = and_parts (is_whole scope.facts path && is_typed_path scope path) (are_typed scope rest) typed in (
        root_so path (and_parts (is_whole scope.facts path) (is_typed_path scope path) t.0).1 asked.0 write.0,
        roots_so rest t.1 asked.1 write.1,
      )

-- ---- the globals that are named

pub record GlobalKnown (scope : scopes.Here) (limits : Limits) (named : ℕ → Bool) (p : Placed) : Type 0 where
  pub named_so : named p.number ≡ true
  pub seen : limits.seen true p.number ≡ true
  pub there : type_in scope true p.number ≡ Some p.of

-- those among the first ones are found among more of them
there_all : (gs : List Placed) (k m : ℕ) → k ≤ m → Distinct (numbers_in gs) →
    AllPlaced (λ p. (look (take m gs) p.number ≡ Some p.of) × Member p.number (numbers_in gs)) (take k gs)
there_all [] zero m le d = tt
there_all [] (suc k) m le d = tt
there_all (g ∷ gs) zero m le d = tt
there_all (g ∷ gs) (suc k) zero le d = absurd (omega (arith, le))
there_all (g ∷ gs) (suc k) (suc m) le d = (
  (ap (λ b. if b then Some g.of else look (take m gs) g.number) (eq-eqb g.number g.number refl), inl refl),
  all_placed_so (λ p. (look (take m gs) p.number ≡ Some p.of) × Member p.number (numbers_in gs))
      (λ p. (look (take (suc m) (g ∷ gs)) p.number ≡ Some p.of) × Member p.number (numbers_in (g ∷ gs))) (take k gs)
      (λ p h. (by p h.1 (nat_eq g.number p.number) refl h.0, inr h.1)) (there_all gs k m (omega (arith, le)) d.1),
)
  where
    by : (p : Placed) → Member p.number (numbers_in gs) → (b : Bool) → nat_eq g.number p.number ≡ b → look (take m gs) p.number ≡ Some p.of →
        (if nat_eq g.number p.number then Some g.of else look (take m gs) p.number) ≡ Some p.of
    by p in_them true e h = absurd (d.0 (subst (λ n. Member n (numbers_in gs)) (sym (eqb-true g.number p.number e)) in_them))
    by p in_them false e h = ap (λ b. if b then Some g.of else look (take m gs) p.number) e ∙ h

seen_all : (P : Placed → Type 0) (seen : ℕ → Bool) (ps : List Placed) → AllPlaced P ps → AllPlaced (λ p. (seen p.number ≡ true) × P p) (seen_of seen ps)
seen_all P seen [] all = tt
seen_all P seen (p ∷ ps) all = by (seen p.number) refl (seen_all P seen ps all.1)
  where
    by : (b : Bool) → seen p.number ≡ b → AllPlaced (λ p. (seen p.number ≡ true) × P p) (seen_of seen ps) →
        AllPlaced (λ p. (seen p.number ≡ true) × P p) (if b then p ∷ seen_of seen ps else seen_of seen ps)
    by true e rest = ((e, all.0), rest)
    by false e rest = rest

member_seen : (seen : ℕ → Bool) (n : ℕ) (ps : List Placed) → Member n (numbers_in (seen_of seen ps)) → Member n (numbers_in ps)
member_seen seen n [] m = m
member_seen seen n (p ∷ ps) m = by (seen p.number) m (λ q. member_seen seen n ps q)
  where
    by : (b : Bool) → Member n (numbers_in (if b then p ∷ seen_of seen ps else seen_of seen ps)) →
        (Member n (numbers_in (seen_of seen ps)) → Member n (numbers_in ps)) → Member n (numbers_in (p ∷ ps))
    by true (inl e) rest = inl e
    by true (inr q) rest = inr (rest q)
    by false q rest = inr (rest q)

distinct_seen : (seen : ℕ → Bool) (ps : List Placed) → Distinct (numbers_in ps) → Distinct (numbers_in (seen_of seen ps))
distinct_seen seen [] d = tt
distinct_seen seen (p ∷ ps) d = by (seen p.number) (distinct_seen seen ps d.1)
  where
    by : (b : Bool) → Distinct (numbers_in (seen_of seen ps)) → Distinct (numbers_in (if b then p ∷ seen_of seen ps else seen_of seen ps))
    by true rest = (λ m. d.0 (member_seen seen p.number ps m), rest)
    by false rest = rest

member_take : (n k : ℕ) (ps : List Placed) → Member n (numbers_in (take k ps)) → Member n (numbers_in ps)
member_take n zero [] m = m
member_take n (suc k) [] m = m
member_take n zero (p ∷ ps) m = elim m [ ]
member_take n (suc k) (p ∷ ps) (inl e) = inl e
member_take n (suc k) (p ∷ ps) (inr m) = inr (member_take n k ps m)

distinct_take : (k : ℕ) (ps : List Placed) → Distinct (numbers_in ps) → Distinct (numbers_in (take k ps))
distinct_take zero [] d = tt
distinct_take (suc k) [] d = tt
distinct_take zero (p ∷ ps) d = tt
distinct_take (suc k) (p ∷ ps) d = (λ m. d.0 (member_take p.number k ps m), distinct_take k ps d.1)

pub globals_known : (scope : scopes.Here) (limits : Limits) (named : ℕ → Bool) (k : ℕ) → k ≤ scope.filled → Distinct (numbers_in scope.globals) →
    ((g : ℕ) → named g ≡ true → limits.seen true g ≡ true) → AllPlaced (GlobalKnown scope limits named) (seen_of named (take k scope.globals))
globals_known scope limits named k le d sees =
    all_placed_so (λ p. (named p.number ≡ true) × ((look (take scope.filled scope.globals) p.number ≡ Some p.of) × Member p.number (numbers_in scope.globals)))
    (GlobalKnown scope limits named) (seen_of named (take k scope.globals)) (λ p h. record { named_so = h.0; seen = sees p.number h.0; there = h.1.0 })
    (seen_all (λ p. (look (take scope.filled scope.globals) p.number ≡ Some p.of) × Member p.number (numbers_in scope.globals)) named (take k scope.globals)
    (there_all scope.globals k scope.filled le d))

pub globals_distinct : (named : ℕ → Bool) (k : ℕ) (ps : List Placed) → Distinct (numbers_in ps) → Distinct (numbers_in (seen_of named (take k ps)))
globals_distinct named k ps d = distinct_seen named (take k ps) (distinct_take k ps d)

-- ---- they part

module _ {here : Here} {scope : scopes.Here} {limits : Limits} {root : (global : Bool) → ℕ → ℕ} {os : List Owner} {world : World}
    (scene : Scene here scope limits root os world) where
  abbrev Root_of : Path → Type 0
  Root_of path = RootOf scope limits root path

  paths_differ : (a b : Path) → Root_of a → Root_of b → PathsPart a b → root_at root a ≡ root_at root b → Differ (path_steps a) (path_steps b)
  paths_differ a b r q part e =
      let same = scene.two r.global q.global r.place q.place r.ty q.ty r.seen q.seen r.there q.there r.may q.may (sym r.is ∙ (e ∙ q.is)) in
      part r.global r.place r.begins
      (subst (λ g. BeginsAt b g r.place) (sym same.0) (subst (λ n. BeginsAt b q.global n) (sym same.1) q.begins))

  parts_in : {uses : (position : ℕ) → Use} {ms : List Owner} {blocks : List ℕ} {now : World} {args : Args} {i : ℕ} {xs : List Operand} {given : List ℕ} →
      AllPaths Root_of args → EachPart args → Distinct (own_numbers here args) →
      (t : Taken here limits root uses ms os blocks now args i xs given) → AllKeysPart (targets_in t)
  parts_in roots part d none_taken = tt
  parts_in roots part d (bare_taken {value = value} {rest = rest} which b more) = parts_in roots part (distinct_rest here value rest d) more
  parts_in roots part d (held_taken {value = value} {rest = rest} purpose u more apart) =
      parts_in roots part (distinct_rest here value rest d) more
  parts_in roots part d (lent_taken {value = value} {rest = rest} purpose hooks own a more) = (
    all_in (λ k. KeysPart (at_node _) k)
        (λ n m e. distinct_one here value rest hooks d (subst (λ j. Member j (own_numbers here rest)) (sym e) m))
        (every_path (λ path. Unit {0}) rest (λ path. tt)) more,
    parts_in roots part (distinct_rest here value rest d) more,
  )
  parts_in {ms = ms} {now = now} roots part d (place_taken {path = path} {rest = rest} f e more) = (
    all_in (λ k. KeysPart (at_root (root_at root path) (path_steps path)) k) (λ n m. tt)
        (all_paths_two Root_of (λ other. PathsPart path other) (λ other. root_at root path ≡ root_at root other → Differ (path_steps path) (path_steps other))
        rest (λ other q apart e. paths_differ path other roots.0 q apart e) roots.1 part.0) more,
    parts_in roots.1 part.1 d more,
  )

  -- with the globals
  module _ (named : ℕ → Bool) where
    abbrev Known : Placed → Type 0
    Known p = GlobalKnown scope limits named p

    abbrev At_global : World → Placed → Type 0
    At_global now p = GlobalAt here.facts (root true) os now p

    globals_part : (ms : List Owner) (now : World) (ps : List Placed) (all : AllPlaced (At_global now) ps) → AllPlaced Known ps →
        Distinct (numbers_in ps) → AllKeysPart (global_targets here.level here.facts (root true) ms os now ps all)
    globals_part ms now [] all known d = tt
    globals_part ms now (p ∷ ps) all known d = (
      global_key (λ k. AllKeys (λ l. KeysPart k l) (global_targets here.level here.facts (root true) ms os now ps all.1)) here.level ms os now all.0
          (all_globals here.level here.facts (root true) ms os now (λ k. KeysPart (at_root (root true p.number) []) k) ps all.1 (others ps known.1 d.0)),
      globals_part ms now ps all.1 known.1 d.1,
    )
      where
        others : (qs : List Placed) → AllPlaced Known qs → (Member p.number (numbers_in qs) → ⊥) →
            AllPlaced (λ q. root true p.number ≡ root true q.number → Differ [] []) qs
        others [] of_them apart = tt
        others (q ∷ qs) of_them apart = (
          λ e. absurd (apart (inl (scene.two true true p.number q.number p.of q.of known.0.seen of_them.0.seen known.0.there of_them.0.there refl refl e).1)),
          others qs of_them.1 (λ m. apart (inr m)),
        )

    pub all_part : {uses : (position : ℕ) → Use} {ms : List Owner} {blocks : List ℕ} {now : World} {args : Args} {i : ℕ} {xs : List Operand}
        {given : List ℕ} → AllPaths Root_of args → EachPart args → AllPaths (λ path. (g : ℕ) → BeginsAt path true g → named g ≡ true → ⊥) args →
        Distinct (own_numbers here args) → (t : Taken here limits root uses ms os blocks now args i xs given)
        (ps : List Placed)
        (all : AllPlaced (At_global now) ps) → AllPlaced Known ps → Distinct (numbers_in ps) →
        AllKeysPart (targets_in t ++ global_targets here.level here.facts (root true) ms os now ps all)
    all_part {ms = ms} {now = now} {args = args} roots part unnamed d t ps all known distinct =
        part_both (targets_in t) (global_targets here.level here.facts (root true) ms os now ps all) (parts_in roots part d t)
        (globals_part ms now ps all known distinct)
        (all_in (λ k. AllKeys (λ l. KeysPart k l) (global_targets here.level here.facts (root true) ms os now ps all))
        (λ n m. all_globals here.level here.facts (root true) ms os now (λ l. KeysPart (at_node n) l) ps all (every_place (λ p. Unit {0}) ps (λ p. tt)))
        (all_paths_two Root_of (λ path. (g : ℕ) → BeginsAt path true g → named g ≡ true → ⊥)
        (λ path. AllKeys (λ l. KeysPart (at_root (root_at root path) (path_steps path)) l)
        (global_targets here.level here.facts (root true) ms os now ps all)) args
        (λ path r off. all_globals here.level here.facts (root true) ms os now (λ l. KeysPart (at_root (root_at root path) (path_steps path)) l) ps all
        (all_placed_so Known (λ p. root_at root path ≡ root true p.number → Differ (path_steps path) []) ps (λ p k e. absurd (never path r off p k e)) known))
        roots unnamed) t)
      where
        never : (path : Path) → Root_of path → ((g : ℕ) → BeginsAt path true g → named g ≡ true → ⊥) → (p : Placed) → Known p →
            root_at root path ≡ root true p.number → ⊥
        never path r off p k e =
            let same = scene.two r.global true r.place p.number r.ty p.of r.seen k.seen r.there k.there r.may refl (sym r.is ∙ e) in
            off p.number (subst (λ g. BeginsAt path g p.number) same.0 (subst (λ n. BeginsAt path r.global n) same.1 r.begins)) k.named_so
