-- `calls_stand` meets its contract. The clause is a fact of Type 1, which the borrow checker does not read, so it is read here, by its proof; the body is as it is everywhere.
-- Assumes nothing.
use mathlib.Core.Path.{◌≡◌, refl}
use mathlib.Core.List.{[]}
use base.Logic.{sep, emp, via, fst∗, emp∗, comm∗}
use contract.Fact.{fact_i}
use contract.Monad.{fact, top}
use contract.Lifetimes.{Lfts}
use contract.Running.{tables_of}
use borrow.Fn.Kinds.{In, Out, ended_of, stays}
use borrow.Fn.Learn.{no_pin, no_own, no_owns}
use borrow.Fn.Read.{Read, no_know, all_models, all∗, r_top}
use borrow.Fn.Run.{Over}
use borrow.Fn.World as World
use borrow.Fn.World.{World}
use borrow.Fn.Written as written
use borrow.Fn.Function.{plain_of}
use denote.Triple.Clauses.{AtExit}
use Rattle.history.specs.Events.{CallsStand}
use Rattle.history.proofs.Whole.{calls_stand}
use Rattle.history.specs.contracts.calls_stand.Key.{name}
use Rattle.history.specs.contracts.calls_stand.{signature, clauses}
use Rattle.history.proofs.calls_stand.Statement.{statement}
use Rattle.history.proofs.calls_stand.Code as code
use Rattle.history.proofs.calls_stand.Kinds.{ps, r}
use Rattle.history.proofs.calls_stand.Lts as lts

abbrev Exit : Lfts 0 → Type 0
Exit κs = AtExit (ended_of 0 ps r) κs

abbrev Pinned : (κs : Lfts 0) → World.ArgsD signature κs → World → Type 1
Pinned κs = no_pin signature κs

abbrev Owned : (κs : Lfts 0) → World.ResD signature κs → Exit κs → World → Type 1
Owned κs = no_own (ended_of 0 ps r) κs

abbrev requires : (κs : Lfts 0) → World.ArgsD signature κs → Unit {0} → (w : World) → World.Pr w
requires κs a g w = (clauses w.𝓛 w.𝓜.mem w.𝓡.returns κs a).requires g

abbrev ensures : (κs : Lfts 0) → World.ArgsD signature κs → Unit {0} → World.ResD signature κs → Exit κs → (w : World) → World.Pr w
ensures κs a g x s w = (clauses w.𝓛 w.𝓜.mem w.𝓡.returns κs a).ensures g x s

abbrev asks : (κs : Lfts 0) (a : World.ArgsD signature κs) (g : Unit {0}) → Read (World.In signature κs a) no_know (requires κs a g)
asks κs a g = all_models (requires κs a g) (λ w. r_top) (λ w. refl) (λ w. refl) (λ w. refl)

-- the clause owes nothing, since it is proved
abbrev tells : (κs : Lfts 0) (a : World.ArgsD signature κs) (g : Unit {0}) (x : World.ResD signature κs) (s : Exit κs) → Read (written.Base 0 ps r Pinned κs a) (Owned κs x s) (ensures κs a g x s)
tells κs a g x s = record {
  owes = [];
  tells = [];
  wants = [];
  held = λ w. [];
  shown = λ w kn o. fact_i w.𝓤 CallsStand (emp w.𝓤) calls_stand;
  used = λ w L Z b ws st base. via w.𝓤 (sep w.𝓤 L (emp w.𝓤)) (via w.𝓤 L (fst∗ w.𝓤 L (fact w.𝓤 CallsStand)) (via w.𝓤 (sep w.𝓤 (emp w.𝓤) L) (emp∗ w.𝓤 L) (comm∗ w.𝓤 (emp w.𝓤) L))) (base tt);
}

abbrev Pre : In 0 ps
Pre = written.Pre 0 ps r (Unit {0}) requires ensures asks Pinned Owned tells tt

abbrev Post : Out 0 ps r
Post = written.Post 0 ps r (Unit {0}) requires ensures asks Pinned Owned tells tt

passes : (w : World) → written.Passes 0 ps r (Unit {0}) requires ensures asks Pinned Owned tells w
passes = λ w κs a g x ws ft p q. top w.𝓤 (all∗ w ((asks κs a g).held w))

returns : lts.Need-returns Pre Post
returns c = tt

same_locals : (lts.function).locals ≡ (code.function).locals
unfolding tables_of
same_locals = refl

same_body : (lts.function).body ≡ (code.function).body
unfolding tables_of
same_body = refl

pub calls_stand_spec : {M : Type 1} → statement M
unfolding tables_of
calls_stand_spec {M} 𝓤 𝓛 𝓜 𝓡 wired =
    let w : World = record { M = M; 𝓤 = 𝓤; 𝓛 = 𝓛; 𝓜 = 𝓜; 𝓡 = 𝓡 } in
    written.close 0 ps r (Unit {0}) requires ensures asks Pinned Owned tells w 𝓡.env name code.function (code.unfolded 𝓤 𝓛.H 𝓜 𝓡 wired)
    (λ κs a g. tt) (λ κs. no_owns (ended_of 0 ps r) (stays ps) κs w) (passes w)
    (λ g. written.at_code 𝓤 𝓛.H (Over 𝓛 𝓜 𝓡 𝓡.env).C (Over 𝓛 𝓜 𝓡 𝓡.env).Λ lts.function code.function same_locals same_body
    (plain_of 𝓛 0 ps r Pre Post)
    (lts.spec Pre Post returns 𝓤 𝓛 (Over 𝓛 𝓜 𝓡 𝓡.env)))
