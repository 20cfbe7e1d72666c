-- What a call gives, by what its parts give.
use Rattle.std.proofs.Common.{◌≡◌, ℕ, suc, ◌≤◌, List, Result, Ok, Err, subst, arith}
use Rattle.indent_scanner.specs.declared.token.Token.{Token}
use Rattle.nim_tree.specs.Terms.{Term, term_of}
use Rattle.parse_exprs.specs.declared.input.Input.{Input}
use Rattle.parse_exprs.specs.declared.make.Reading.{Reading}
use Rattle.parse_exprs.specs.declared.make.Stuck.{Stuck}
use Rattle.parse_exprs.specs.declared.make.Stuck.TheVariants.{Syntax, Deep, Memory}
use Rattle.parse_exprs.specs.Outcome.{Why, Out, got, bad, stuck, deep, Settles}
use Rattle.parse_exprs.specs.Input.{from_at}
use Rattle.parse_exprs.specs.Gives.{Fails, Found, Comes, Leads, Onward, Goes}

-- a refusal of one run is one of another
abbrev pub Passes : {X Y : Type 0} → (ℕ → Out X) → (ℕ → Out Y) → Type 0
Passes part whole = (why : Why) → Settles part (bad why) → Settles whole (bad why)

pub fails_up : {X Y : Type 0} {f : ℕ → Out X} {g : ℕ → Out Y} (input : Input) (e : Stuck) → Passes f g → Fails f input e → Fails g input e
fails_up input (Syntax at) p h = p (stuck (from_at input at)) h
fails_up input Deep p h = p deep h
fails_up input Memory p h = tt

pub fails_on : {X : Type 0} {f g : ℕ → Out X} (input : Input) (e : Stuck) → Leads f g → Fails f input e → Fails g input e
fails_on input e l h = fails_up input e (λ why s. l (bad why) s) h

-- the token that can't go on stands at this place
pub stuck_here : {X : Type 0} {f : ℕ → Out X} {ts : List Token} (input : Input) (at : ℕ) → Settles f (bad (stuck ts)) → ts ≡ from_at input at
    → Fails f input (Syntax at)
stuck_here {f = f} input at h e = subst (λ us. Settles f (bad (stuck us))) e h

-- the same read, seen as more or fewer levels and tokens
pub comes_up : {f g : ℕ → Out Term} (input : Input) {left least more fewer : ℕ} → Leads f g → left ≤ more → fewer ≤ least → (r : Result Reading Stuck)
    → Comes f input left least r → Comes g input more fewer r
comes_up input {left} {least} {more} {fewer} l le ge (Ok p) h = record {
  runs = l (got (term_of p.tree) (from_at input p.next)) h.runs;
  depth = h.depth;
  few = let a = h.few in omega (arith, a, le);
  goes = let a = h.goes in omega (arith, a, ge);
  within = h.within;
}
comes_up input l le ge (Err e) h = fails_on input e l h

pub goes_up : {f : ℕ → Out Term} (run : Term → List Token → ℕ → Out Term) (input : Input) (left : ℕ) (a : Term) (at : ℕ)
    → ((b : Term) (mid : List Token) → Settles f (got b mid) → Leads (run b mid) (run a (from_at input at))) → Passes f (run a (from_at input at))
    → (r : Result Reading Stuck) → Comes f input left (suc at) r → Goes run input left a at r
goes_up run input left a at on up (Ok p) h = record {
  leads = on (term_of p.tree) (from_at input p.next) h.runs;
  depth = h.depth;
  few = h.few;
  goes = h.goes;
  within = h.within;
}
goes_up run input left a at on up (Err e) h = fails_up input e up h

-- so far it leads on, and the rest was read
pub found_by : {X : Type 0} {part whole : ℕ → Out X} {t : X} (input : Input) {left least high next tall : ℕ} → Onward part whole input left least high next tall
    → Settles part (got t (from_at input next))
    → Found whole input left least t high next tall
found_by {t = t} input {next = next} s h = record {
  runs = s.leads (got t (from_at input next)) h;
  depth = s.depth;
  few = s.few;
  goes = s.goes;
  within = s.within;
}

-- first one part, and then what goes on with it
pub onward_from : {X Y : Type 0} {f : ℕ → Out X} {part whole : ℕ → Out Y} {t : X} (input : Input) {left least high next tall : ℕ}
    → (Settles f (got t (from_at input next)) → Leads part whole)
    → Found f input left least t high next tall → Onward part whole input left least high next tall
onward_from input l h = record { leads = l h.runs; depth = h.depth; few = h.few; goes = h.goes; within = h.within }

-- and one more
pub onward_on : {X : Type 0} {part mid whole : ℕ → Out X} (input : Input) {left least high next tall more first after all : ℕ}
    → Onward mid whole input left least high next tall → least ≤ more
    → Onward part mid input left more first after all → Onward part whole input left least first after all
onward_on input s le h = record {
  leads = λ o g. s.leads o (h.leads o g);
  depth = h.depth;
  few = h.few;
  goes = let a = h.goes in omega (arith, a, le);
  within = h.within;
}

-- the same run, from equal things
pub leads_is : {X Y : Type 0} {whole : ℕ → Out Y} (run : X → List Token → ℕ → Out Y) {a b : X} {us vs : List Token} → a ≡ b → us ≡ vs → Leads (run b vs) whole
    → Leads (run a us) whole
leads_is run {a} {b} {us} {vs} e r l = λ o g. l o (subst (λ v. Settles (run b v) o) r (subst (λ t. Settles (run t us) o) e g))
