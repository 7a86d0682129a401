-- Laws of the load's bytes: what is written is read back, what is read is written back, and where each number stands. Assumes nothing.
use Rattle.std.specs.Prelude.{Some, None}
use Prim.{tt}
use Rattle.std.specs.Prelude.{◌≡◌, refl, Bool, true, false, cond, List, ℕ, ◌^◌, ◌≤◌, ◌<◌, length, get_or}
use Rattle.std.proofs.Common.{sym, ap, ◌∙◌, subst, arith, leb-true, le-leb}
use Rattle.lent_bytes.specs.LentBytes.{part, Bytes}
use Rattle.table.specs.Memory.{word_bytes, word_of}
use Rattle.table.specs.MemoryLaws.{length_word_bytes, Bytes_word_bytes, word_of_word_bytes, word_bytes_all, word_of_lt}
use Rattle.peer_state.specs.declared.ingress.FiberIngressBudget.{FiberIngressBudget}
use Rattle.peer_state.specs.Ingress.{in_flight}
use Rattle.snapshot_settings.specs.Settings.{narrow}
use Rattle.snapshot_settings.specs.Load.{load_size, load_words, load_bytes, load_from, load_of}
use Rattle.table_laws.specs.WordsLaws.{each_fits}
use Rattle.snapshot_settings.specs.WordLaws.{word_at, word_place}

-- two numbers take their size
pub length_load_bytes : (i : FiberIngressBudget) → length (load_bytes i) ≡ load_size
unfolding load_bytes load_words
length_load_bytes i = length_word_bytes (load_words i)

-- they are bytes
pub Bytes_load_bytes : (i : FiberIngressBudget) → Bytes (load_bytes i)
unfolding load_bytes
Bytes_load_bytes i = Bytes_word_bytes (load_words i)

-- two equal numbers say the same
load_same : (v w : ℕ → ℕ) → ((i : ℕ) → i < 2 → v i ≡ w i) → load_from v ≡ load_from w
load_same v w h = rw (h 0 (omega arith), h 1 (omega arith))

-- a load that stands at a place, by its numbers there
pub load_places : (s : List ℕ) (at : ℕ) → load_of (part s at load_size) ≡ load_from (word_at s at)
unfolding load_of
load_places s at = load_same (λ i. word_of (part s at load_size) i) (word_at s at) (λ i h. word_place s at load_size i (omega arith))

-- a load that was written is read back
pub load_read_back : (i : FiberIngressBudget) → i.in_flight_messages < 2 ^ 32 → i.in_flight_bytes < 2 ^ 64 → load_of (load_bytes i) ≡ Some i
unfolding load_of load_bytes load_words
load_read_back i f g =
    load_same (λ j. word_of (word_bytes (load_words i)) j) (λ j. get_or (load_words i) j 0)
    (λ j h. word_of_word_bytes (load_words i) j (each_fits (load_words i) (omega arith, (g, tt))) h)
    ∙ rw (le-leb i.in_flight_messages 4294967295 (omega arith))

-- what was read, and that the messages are in range
read_is : (b : Bool) (x i : FiberIngressBudget) → cond b (Some x) None ≡ Some i → (b ≡ true) × (x ≡ i)
read_is true x i h = (refl, cc)
read_is false x i h = (cc, cc)

-- a load that was read is written back
pub load_write_back : (s : List ℕ) (i : FiberIngressBudget) → Bytes s → length s ≡ load_size → load_of s ≡ Some i → load_bytes i ≡ s
unfolding load_of load_bytes load_words
load_write_back s i b n h =
    let is = read_is (narrow (word_of s 0)) (in_flight (word_of s 0) (word_of s 1)) i h in
    ap (λ (x : FiberIngressBudget). word_bytes (load_words x)) (sym is.1) ∙ word_bytes_all s 2 b n

-- a load that was read is within its fields
pub load_read_fits : (s : List ℕ) (i : FiberIngressBudget) → Bytes s → length s ≡ load_size → load_of s ≡ Some i
    → (i.in_flight_messages < 2 ^ 32) × (i.in_flight_bytes < 2 ^ 64)
unfolding load_of
load_read_fits s i b n h =
    let is = read_is (narrow (word_of s 0)) (in_flight (word_of s 0) (word_of s 1)) i h in
    let small : word_of s 0 ≤ 4294967295 = leb-true (word_of s 0) 4294967295 is.0 in
    subst (λ (x : FiberIngressBudget). (x.in_flight_messages < 2 ^ 32) × (x.in_flight_bytes < 2 ^ 64)) is.1
    (omega arith, word_of_lt s 1 b (omega arith))
