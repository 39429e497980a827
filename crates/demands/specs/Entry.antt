-- What a contract of an entry says, in one word, so that a page can state it: "Every entry point answers on any bytes,
-- spans, registers, buffer and step allowance" (demand 1).
use seplogic.Ra.Ura.{Ura}
use base.Logic.{SProp, sep, emp}
use mir.Syntax.{Callee}
use prog.Model.{Model}
use prog.Wired.{Code, Wired}
use types.Logic.{Logic}
use contract.Lifetimes.{Lfts}
use contract.Monad.{fact}
use contract.Running.{Running}
use denote.Triple.Entry.{Args, Res}
use denote.Triple.Clauses.{Ended, AtExit, closing}
use denote.Triple.Spec.{Meets}

-- a fact of the arguments a function is called with, its answer, and the arguments as it leaves them
abbrev pub Fact : Ended → Type 1
Fact T = (κs : Lfts T.signature.lifetimes) → Args T.signature κs → Res T.signature κs → AtExit T κs → Type 0

-- whatever it is called with, nothing is asked of the caller (`requires` is empty), it ends, and what `ensures` tells
-- then holds: of the function of this name, wherever the name means this code
abbrev pub Met : (M : Type 1) (T : Ended) → Callee → Code
    → ((𝓤 : Ura M) (κs : Lfts T.signature.lifetimes) → Args T.signature κs → Res T.signature κs → AtExit T κs → SProp 𝓤) → Type 2
Met M T name code ensures =
    (𝓤 : Ura M) (𝓛 : Logic 𝓤) (𝓜 : Model 𝓤 𝓛.H) (𝓡 : Running 𝓤 𝓛.H 𝓜)
    → Wired 𝓡.env code
    → Meets 𝓛 T.signature (𝓡.run (𝓡.env name))
    (closing 𝓛 T (λ κs a. record { ghost = Unit {0}; requires = λ _. emp 𝓤; ensures = λ _ r e. ensures 𝓤 κs a r e }))

-- it answers so
abbrev pub Answers : (M : Type 1) (T : Ended) → Callee → Code → Fact T → Type 2
Answers M T name code p = Met M T name code (λ 𝓤 κs a r e. fact 𝓤 (p κs a r e))

-- an exported function: what it returns, and what it stores
abbrev pub Exports : (M : Type 1) (T : Ended) → Callee → Code → Fact T → Fact T → Type 2
Exports M T name code p q = Met M T name code (λ 𝓤 κs a r e. sep 𝓤 (fact 𝓤 (p κs a r e)) (fact 𝓤 (q κs a r e)))

-- a function that lends a part, or says why not: the number of its refusal, the part, and what there is where it is refused
abbrev pub Lends : (M : Type 1) (T : Ended) → Callee → Code → Fact T → Fact T → Fact T → Type 2
Lends M T name code p q s = Met M T name code (λ 𝓤 κs a r e. sep 𝓤 (fact 𝓤 (p κs a r e)) (sep 𝓤 (fact 𝓤 (q κs a r e)) (fact 𝓤 (s κs a r e))))
