-- Parts of a body, one after another.
use Rattle.std.proofs.Common.{◌≡◌, refl, ap, subst, ◌∙◌, ℕ, ◌<◌, inl, inr, ◌⊎◌, Bool, true, false, List, [], ◌∷◌, ◌++◌, Some}
use Rattle.nim_types.specs.Types.{Ty}
use Rattle.nim_program.specs.Fitting.{is_in}
use Rattle.nim_program.specs.Scopes as scopes
use Rattle.nim_program.specs.Scopes.{type_in}
use Rattle.nim_meaning.specs.ActTree as points
use Rattle.nim_meaning.specs.Ways.{At as Spot}
use Rattle.nim_meaning.specs.Values.{Value, Base, Standing, Waiting, InBlock, InHand, InException, Made}
use Rattle.nim_meaning.specs.Marks.{Member}
use Rattle.nim_meaning.specs.State.{World, State}
use Rattle.nim_program.specs.Program.{Label}
use Rattle.nim_meaning.specs.Acts.{Exit, Does, give, branch, costs, worked, with_trail, ◌>>=◌}
use Rattle.nim_meaning.specs.Here.{Here, level_of}
use Rattle.nim_meaning.specs.Waiting.{Wait, nodes_of}
use Rattle.nim_meaning.specs.Steps.{all_end, at_node, picked, label_work, fits_label}
use Rattle.holders.specs.Owned.{Active}
use Rattle.holders.specs.Sure.{Comes}
use Rattle.holders.specs.Territory.{Owner}
use Rattle.holders.specs.Running.{Region, IsOutside, Wider, Passes}
use Rattle.holders.specs.Staging.{Stage, StageWith}
use Rattle.holders.specs.Groups.{without_waits, AllMine, Ends}
use Rattle.holders.specs.Called.{LeftBy}
use Rattle.holders.specs.Asked.{Limits}
use Rattle.holders.specs.Evaluating.{Begins, Scene, at_nodes}
use Rattle.holders.specs.Claimed.{InBody}
use Rattle.holders.specs.BodyParts.{part_region, PartBegins, Sights, NoneNamed, Pending, Over, PartSo}
use Rattle.holders.proofs.Working.{all_so}
use Rattle.holders.proofs.Coming.{comes_then, comes_weaker}
use Rattle.holders.proofs.Staging.{goes_on, no_given}
use Rattle.holders.proofs.Framing.{own_wider, passes_wider, stage_begins}
use Rattle.holders.proofs.Groups.{group_ends}
use Rattle.holders.proofs.GroupsOver.{without_waits_in, without_waits_distinct, without_waits_gone}
use Rattle.holders.proofs.PartsInTurn.{in_is, is_member, ends_later, ends_behind}
use Rattle.holders.proofs.Claims.{not_above}
use Rattle.holders.proofs.Scenes.{place_kept}

-- ---- regions

pub part_wider : (level : ℕ) (ps ns sub_ps sub_ns : List ℕ) → ((n : ℕ) → Member n sub_ps → Member n ps) → ((n : ℕ) → Member n sub_ns → Member n ns) →
    Wider (part_region level ps ns) (part_region level sub_ps sub_ns)
part_wider level ps ns sub_ps sub_ns of_places of_nodes = record {
  outside = outside;
  level = refl;
  places = λ n e. in_is n ps (of_places n (is_member n sub_ps e));
}
  where
    outside : (b : Base) → IsOutside (part_region level ps ns) b → IsOutside (part_region level sub_ps sub_ns) b
    outside (Standing l n) (inl less) = inl less
    outside (Standing l n) (inr q) = inr (q.0, λ e. q.1 (in_is n ps (of_places n (is_member n sub_ps e))))
    outside (Waiting l node) (inl less) = inl less
    outside (Waiting l node) (inr q) = inr (q.0, λ e. q.1 (in_is node ns (of_nodes node (is_member node sub_ns e))))
    outside (InBlock k) h = tt
    outside (InHand i) h = tt
    outside (InException i) h = tt
    outside (Made v) h = tt

-- a place that isn't the part's own
pub place_outside : (level n : ℕ) (ps ns : List ℕ) → (Member n ps → ⊥) → IsOutside (part_region level ps ns) (Standing level n)
place_outside level n ps ns h = inr (refl, λ e. h (is_member n ps e))

pub node_outside : (level n : ℕ) (ps ns : List ℕ) → (Member n ns → ⊥) → IsOutside (part_region level ps ns) (Waiting level n)
node_outside level n ps ns h = inr (refl, λ e. h (is_member n ns e))

-- a stage of a part is one of the whole
abbrev pub stage_in : {out : ℕ → ℕ} {r inner : Region} {ms os : List Owner} {first places : ℕ} {nodes old : List ℕ} {start now : World} → Wider r inner →
    StageWith out inner ms os first places nodes old start now → StageWith out r ms os first places nodes old start now
stage_in {ms = ms} {first = first} {places = places} {nodes = nodes} {now = now} w s = record {
  runs = record {
    territory = s.runs.territory;
    own = own_wider w ms s.runs.own;
    came = s.runs.came;
    loses = s.runs.loses;
    passes = passes_wider [] w tt (λ k m. m) s.runs.passes;
  };
  active = subst (λ l. Active now.frames l first places nodes) w.level s.active;
}

abbrev pub body_in : {r inner : Region} {ks os : List Owner} {first places : ℕ} {nodes old : List ℕ} {start now : World} → Wider r inner →
    InBody inner ks os first places nodes old start now → InBody r ks os first places nodes old start now
body_in w e = record { later = e.later; stage = stage_in w e.stage; distinct = e.distinct; came = e.came }

-- ---- parts begin

module _ {level first places : ℕ} {os : List Owner} {nodes : List ℕ} where
  abbrev pub begins_in : (ps ns sub_ps sub_ns : List ℕ) {world : World} → PartBegins level first places ps ns os nodes world →
      ((n : ℕ) → Member n sub_ps → Member n ps) → ((n : ℕ) → Member n sub_ns → Member n ns) → PartBegins level first places sub_ps sub_ns os nodes world
  begins_in ps ns sub_ps sub_ns b of_places of_nodes = record {
    territory = b.territory;
    outside = all_so (λ o. IsOutside (part_region level ps ns) o.at.base) (λ o. IsOutside (part_region level sub_ps sub_ns) o.at.base) os
        (λ o h. (part_wider level ps ns sub_ps sub_ns of_places of_nodes).outside o.at.base h) b.outside;
    active = b.active;
    distinct = b.distinct;
    free = λ n m q. b.free n m (of_nodes n q);
    deepest = b.deepest;
  }

  -- an expression in it
  abbrev pub value_begins : (ps ns sub : List ℕ) {world : World} → PartBegins level first places ps ns os nodes world →
      ((n : ℕ) → Member n sub → Member n ns) → Begins level first places sub os nodes world
  value_begins ps ns sub b of_nodes = record {
    territory = b.territory;
    outside = all_so (λ o. IsOutside (part_region level ps ns) o.at.base) (λ o. IsOutside (at_nodes level sub) o.at.base) os
        (λ o h. (part_wider level ps ns [] sub (λ n m. elim m [ ]) of_nodes).outside o.at.base h) b.outside;
    active = b.active;
    distinct = b.distinct;
    free = λ n m q. b.free n m (of_nodes n q);
    deepest = b.deepest;
  }

  -- behind another one
  abbrev pub begins_behind : (sub_ps sub_ns : List ℕ) {ps ns : List ℕ} {start now : World} (b : PartBegins level first places ps ns os nodes start)
      (e : InBody (part_region level sub_ps sub_ns) [] os first places nodes b.territory.blocks start now) → PartBegins level first places ps ns os e.later now
  begins_behind sub_ps sub_ns b e = record {
    territory = e.stage.runs.territory;
    outside = b.outside;
    active = e.stage.active;
    distinct = e.distinct;
    free = λ n m q. b.free n (e.came n m) q;
    deepest = e.stage.runs.passes.count ∙ b.deepest;
  }

-- one after another
abbrev pub over_then : {r one two : Region} {os : List Owner} {first places : ℕ} {nodes old : List ℕ} {start mid last : World} → Wider r one → Wider r two →
    (e : InBody one [] os first places nodes old start mid) →
    InBody two [] os first places e.later e.stage.runs.territory.blocks mid last → InBody r [] os first places nodes old start last
over_then {r} {os = os} {first = first} {places = places} {old = old} {start = start} w v e f =
    let a = stage_in w e.stage in
    let b = stage_in v f.stage in
    record {
      later = f.later;
      stage = record { runs = goes_on r os first places old start a.runs (no_given r os first places old start) b.runs; active = b.active };
      distinct = f.distinct;
      came = λ n m. e.came n (f.came n m);
    }

-- ---- what is named

pub scene_stays : {here : Here} {scope : scopes.Here} {limits : Limits} {root : (global : Bool) → ℕ → ℕ} {os qs : List Owner} (ps ns : List ℕ) {old : List ℕ}
    {start now : World} → Passes (part_region here.level ps ns) qs old start now → NoneNamed here scope limits ps →
    Scene here scope limits root os start → Scene here scope limits root os now
scene_stays {here} {scope} {limits} ps ns {start = start} {now = now} p none scene = record {
  place = λ global n ty named e. place_kept (λ l name. p.names (level_of global here) n l name (there global n ty named e)) (scene.place global n ty named e);
  two = scene.two;
}
  where
    there : (global : Bool) (n : ℕ) (ty : Ty) → limits.seen global n ≡ true → type_in scope global n ≡ Some ty →
        (level_of global here < here.level) ⊎ ((level_of global here ≡ here.level) × (is_in n ps ≡ true → ⊥))
    there global n ty named e = by (not_above global here)
      where
        by : (level_of global here < here.level) ⊎ (level_of global here ≡ here.level) →
            (level_of global here < here.level) ⊎ ((level_of global here ≡ here.level) × (is_in n ps ≡ true → ⊥))
        by (inl less) = inl less
        by (inr same) = inr (same, λ q. none global n ty named e same (is_member n ps q))

pub sights_stay : {here : Here} {scope : scopes.Here} {limits : Limits} {os qs : List Owner} (ps ns : List ℕ) {old : List ℕ} {start now : World} →
    Passes (part_region here.level ps ns) qs old start now → NoneNamed here scope limits ps → Sights here scope limits os start →
    Sights here scope limits os now
sights_stay ps ns p none sights = record { root = sights.root; scene = scene_stays ps ns p none sights.scene; result = sights.result }

-- nothing was done yet
abbrev pub starts_over : {level first places : ℕ} (ps ns : List ℕ) {os : List Owner} {nodes : List ℕ} {start : World}
    (b : PartBegins level first places ps ns os nodes start) → InBody (part_region level ps ns) [] os first places nodes b.territory.blocks start start
starts_over {level} ps ns {os} {nodes} b = record {
  later = nodes;
  stage = stage_begins {inner = part_region level ps ns} {ts = []} {gs = os} b.territory tt b.active;
  distinct = b.distinct;
  came = λ n m. m;
}

-- ---- parts in turn

module _ (here : Here) (first places : ℕ) (scope : scopes.Here) (limits : Limits) where
  abbrev So : {A : Type 0} → (ps ns : List ℕ) → Does A → Type 0
  So ps ns act = PartSo here first places scope limits ps ns act

  left_in : (P Q : World → Type 0) → ((now : World) → P now → Q now) → (way : Exit) (now : World) → LeftBy P way now → LeftBy Q way now
  left_in P Q h way now l = (l.0, h now l.1)

  -- a part of a longer one
  pub part_in : {A : Type 0} (ps ns sub_ps sub_ns : List ℕ) (act : Does A) → ((n : ℕ) → Member n sub_ps → Member n ps) →
      ((n : ℕ) → Member n sub_ns → Member n ns) → So sub_ps sub_ns act → So ps ns act
  part_in ps ns sub_ps sub_ns act of_places of_nodes so os nodes s b sights =
      let P : World → Type 0 = λ after. Over here first places scope limits sub_ps sub_ns os nodes b.territory.blocks s.world after in
      let Q : World → Type 0 = λ after. Over here first places scope limits ps ns os nodes b.territory.blocks s.world after in
      let w = part_wider here.level ps ns sub_ps sub_ns of_places of_nodes in
      comes_weaker (λ u after. P after) (LeftBy P) (λ u after. Q after) (LeftBy Q) (act s)
      (so os nodes s (begins_in ps ns sub_ps sub_ns b of_places of_nodes) sights) (λ u now e. body_in w e) (λ way now l. (l.0, body_in w l.1))

  -- nothing to do
  pub nothing_so : (ps ns : List ℕ) → So ps ns (give {A = Unit {0}} tt)
  nothing_so ps ns os nodes s b sights = starts_over ps ns b

  pub work_part : {A : Type 0} (ps ns : List ℕ) (n : ℕ) (act : Does A) → So ps ns act → So ps ns (costs n act)
  work_part ps ns n act so os nodes s b sights = so os nodes (worked n s) b sights

  pub node_part : {A : Type 0} (ps ns : List ℕ) (node : ℕ) (role : points.Role) (act : Does A) → So ps ns act → So ps ns (at_node node role act)
  node_part ps ns node role act so os nodes s b sights = so os nodes (with_trail (Spot node role ∷ s.trail) s) b sights

  pub branch_part : {A : Type 0} (ps ns : List ℕ) (c : Bool) (one two : Does A) → So ps ns one → So ps ns two → So ps ns (branch c one two)
  branch_part ps ns true one two a b = a
  branch_part ps ns false one two a b = b

  -- labels are tried in turn
  pub tried_part : {A : Type 0} (ps ns : List ℕ) (labels : List Label) (x : Value) (holds fails : Does A) → So ps ns holds → So ps ns fails →
      So ps ns (picked labels x holds fails)
  tried_part ps ns [] x holds fails a b = b
  tried_part ps ns (label ∷ labels) x holds fails a b =
      work_part ps ns (label_work label) (branch (fits_label label x) holds (picked labels x holds fails))
      (branch_part ps ns (fits_label label x) holds (picked labels x holds fails) a (tried_part ps ns labels x holds fails a b))

  pub part_then : {A B : Type 0} (ps ns ps1 ns1 ps2 ns2 : List ℕ) (one : Does A) (two : A → Does B) → ((n : ℕ) → Member n ps1 → Member n ps) →
      ((n : ℕ) → Member n ns1 → Member n ns) → ((n : ℕ) → Member n ps2 → Member n ps) → ((n : ℕ) → Member n ns2 → Member n ns) →
      NoneNamed here scope limits ps1 → So ps1 ns1 one → ((x : A) → So ps2 ns2 (two x)) → So ps ns (one >>= two)
  part_then ps ns ps1 ns1 ps2 ns2 one two of_ps1 of_ns1 of_ps2 of_ns2 none first_so second_so os nodes s b sights =
      let P : World → Type 0 = λ after. Over here first places scope limits ps1 ns1 os nodes b.territory.blocks s.world after in
      let Q : World → Type 0 = λ after. Over here first places scope limits ps ns os nodes b.territory.blocks s.world after in
      let w = part_wider here.level ps ns ps1 ns1 of_ps1 of_ns1 in
      let v = part_wider here.level ps ns ps2 ns2 of_ps2 of_ns2 in
      comes_then one two (λ x after. P after) (λ u after. Q after) (LeftBy Q) s
      (comes_weaker (λ u after. P after) (LeftBy P) (λ u after. P after) (LeftBy Q) (one s)
      (first_so os nodes s (begins_in ps ns ps1 ns1 b of_ps1 of_ns1) sights) (λ u now e. e) (λ way now l. (l.0, body_in w l.1)))
      (λ x mid e.
      let c = begins_behind ps1 ns1 b e in
      let R : World → Type 0 = λ after. Over here first places scope limits ps2 ns2 os e.later c.territory.blocks mid.world after in
      comes_weaker (λ u after. R after) (LeftBy R) (λ u after. Q after) (LeftBy Q) (two x mid)
      (second_so x os e.later mid (begins_in ps ns ps2 ns2 c of_ps2 of_ns2) (sights_stay ps1 ns1 e.stage.runs.passes none sights))
      (λ u now f. over_then w v e f) (λ way now l. (l.0, over_then w v e l.1)))

  -- behind what the part did
  pub part_again : {A : Type 0} (ps ns sub_ps sub_ns : List ℕ) (act : Does A) → ((n : ℕ) → Member n sub_ps → Member n ps) →
      ((n : ℕ) → Member n sub_ns → Member n ns) → NoneNamed here scope limits ps → So sub_ps sub_ns act → {os : List Owner} {nodes : List ℕ} {start : World}
      (b : PartBegins here.level first places ps ns os nodes start) → Sights here scope limits os start → (s : State) →
      Over here first places scope limits ps ns os nodes b.territory.blocks start s.world →
      Comes (λ x after. Over here first places scope limits ps ns os nodes b.territory.blocks start after)
      (LeftBy (λ after. Over here first places scope limits ps ns os nodes b.territory.blocks start after)) (act s)
  part_again ps ns sub_ps sub_ns act of_places of_nodes none so {os} {nodes} {start} b sights s e =
      let c = begins_behind ps ns b e in
      let Q : World → Type 0 = λ after. Over here first places scope limits ps ns os nodes b.territory.blocks start after in
      let R : World → Type 0 = λ after. Over here first places scope limits sub_ps sub_ns os e.later c.territory.blocks s.world after in
      let w = part_wider here.level ps ns ps ns (λ n m. m) (λ n m. m) in
      let v = part_wider here.level ps ns sub_ps sub_ns of_places of_nodes in
      comes_weaker (λ x after. R after) (LeftBy R) (λ x after. Q after) (LeftBy Q) (act s)
      (so os e.later s (begins_in ps ns sub_ps sub_ns c of_places of_nodes) (sights_stay ps ns e.stage.runs.passes none sights))
      (λ x now f. over_then w v e f) (λ way now l. (l.0, over_then w v e l.1))

-- ---- temporaries end with their group

module _ {r : Region} {ks os : List Owner} {first places : ℕ} {nodes old : List ℕ} {start : World} where
  pub pending_over : {ws : List Wait} (X : Exit → World → Type 0) (flow : points.Flow) → AllMine r ws → (s : State) →
      Pending r ks os first places nodes ws old start s.world →
      Comes (λ u after. InBody r ks os first places nodes old start after) X (all_end r.level flow ws s)
  pending_over {ws} X flow mine s p =
      comes_weaker (λ u after. Stage r ks os first places (without_waits p.behind ws) old start after) X
      (λ u after. InBody r ks os first places nodes old start after) X (all_end r.level flow ws s)
      (group_ends r os first places old start X flow mine ends s p.stage)
      (λ u now st. record {
        later = without_waits p.behind ws;
        stage = st;
        distinct = without_waits_distinct p.behind ws p.distinct;
        came = λ n m. from n m (p.leaves.came n (p.within n (without_waits_in p.behind ws n m)));
      })
      (λ way now q. q)
    where
      back : (n : ℕ) → Member n p.behind → Member n (nodes_of ws) → Member n p.later
      back n m q = p.within n m

      ends : Ends r.level p.behind ws (ks ++ p.own) ks
      ends = subst (λ ps. Ends r.level p.behind ws (ks ++ p.own) ps) (nothing_more ks) (ends_behind ks (ends_later back p.leaves.ends))
        where
          nothing_more : (ms : List Owner) → ms ++ [] ≡ ms
          nothing_more [] = refl
          nothing_more (m ∷ ms) = ap (λ (qs : List Owner). m ∷ qs) (nothing_more ms)

      from : (n : ℕ) → Member n (without_waits p.behind ws) → Member n nodes ⊎ Member n (nodes_of ws) → Member n nodes
      from n m (inl q) = q
      from n m (inr q) = absurd (without_waits_gone p.behind ws p.distinct n m q)
