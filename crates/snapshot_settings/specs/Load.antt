-- The load in flight as kind 2 of a snapshot: messages and bytes, two numbers of eight bytes. Definitions only; their laws are in
-- `LoadLaws`.
use Rattle.std.specs.Prelude.{cond, List, [], ◌∷◌, ℕ}
use Rattle.std.specs.Prelude.{Option, Some, None}
use Rattle.table.specs.Memory.{word_bytes, word_of}
use Rattle.peer_state.specs.declared.ingress.FiberIngressBudget.{FiberIngressBudget}
use Rattle.peer_state.specs.Ingress.{in_flight}
use Rattle.snapshot_settings.specs.Settings.{narrow}

-- the size of the load, in bytes
abbrev pub load_size : ℕ
load_size = 16

-- the two numbers in their order
unfoldable pub load_words : FiberIngressBudget → List ℕ
load_words i = i.in_flight_messages ∷ i.in_flight_bytes ∷ []

-- the bytes of a load
unfoldable pub load_bytes : FiberIngressBudget → List ℕ
load_bytes i = word_bytes (load_words i)

-- the load whose numbers are these, or that the messages are out of range
abbrev pub load_from : (ℕ → ℕ) → Option FiberIngressBudget
load_from w = cond (narrow (w 0)) (Some (in_flight (w 0) (w 1))) None

-- the load that bytes spell, or that the messages are out of range
unfoldable pub load_of : List ℕ → Option FiberIngressBudget
load_of s = load_from (λ i. word_of s i)
