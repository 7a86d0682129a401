-- A record that is lent and altered, the answer of the call that alters it, and the pair of both that the call by value hands back:
-- what the laws of this crate ask of the three types. Definitions only.
--
-- The record is a declared struct and the answer a declared enum, both of plain data; the pair is a struct of just these two, the
-- record first. A declared type's module has all that is asked (`the_type`, and `the_laws`, `the_plain`, `the_copy` and `lowers` of its `TheLaws`).
use Rattle.std.specs.Prelude.{◌≡◌, refl, [], ◌∷◌}
use mir.Syntax.{Sym, Ty}
use mir.Val.{Val}
use denote.Enum.Declared as enums
use denote.Enum.Enum as enum
use denote.Enum.Laws as EL
use denote.Lowered.{Lowered}
use denote.RattleType.{RattleType, Denots}
use denote.Struct.Declared as structs
use denote.Struct.Laws as LL
use denote.Struct.Struct as struct

-- a declared struct of plain data
pub record Struct : Type 2 where
  pub type : structs.Declared
  pub laws : LL.Laws type
  pub plain : struct.Plains (structs.fields type)
  pub copy : LL.Copyables type.parts
  pub lowered : LL.Lowered type

-- a declared enum of plain data
pub record Enum : Type 2 where
  pub type : enums.Declared
  pub laws : EL.Laws type
  pub few : enum.Few (enums.shape type)
  pub plain : enum.Plainss (enums.variants type)
  pub lowered : Lowered (enums.row type)

-- the record, the answer, and the pair: its name, its values, and how they are put together and taken apart
pub record Lent : Type 2 where
  pub record_type : Struct
  pub answer_type : Enum
  pub name : Sym
  pub Both : Type 0
  pub both : record_type.type.D → answer_type.type.D → Both
  pub kept : Both → record_type.type.D
  pub said : Both → answer_type.type.D
  pub joined : (t : Both) → both (kept t) (said t) ≡ t
  pub both_kept : (d : record_type.type.D) (a : answer_type.type.D) → kept (both d a) ≡ d
  pub both_said : (d : record_type.type.D) (a : answer_type.type.D) → said (both d a) ≡ a
  pub one : (x y : Both)
      → ◌≡◌ {A = Denots (structs.fields record_type.type) × (enum.Sum (enums.variants answer_type.type) × Unit {0})}
      (record_type.type.to (kept x), (answer_type.type.to (said x), tt))
      (record_type.type.to (kept y), (answer_type.type.to (said y), tt))
      → x ≡ y

module _ (K : Lent) where
  -- the record and the answer, as they are declared
  abbrev pub Kept : structs.Declared
  Kept = K.record_type.type

  abbrev pub Said : enums.Declared
  Said = K.answer_type.type

  -- the pair, as it is declared
  abbrev pub Pair : structs.Declared
  Pair = record {
    name = K.name;
    args = [];
    types = [];
    parts = structs.field Kept ∷ enums.field Said ∷ [];
    D = K.Both;
    to = λ t. (Kept.to (K.kept t), (Said.to (K.said t), tt));
    to_one = K.one;
    as_values = λ t. (K.kept t, (K.said t, tt));
    to_is = λ t. refl;
    cover = record {
      Ghost = λ _. Unit {0};
      ghosts = λ _. tt;
      make = λ v _. K.both v.0 v.1.0;
      eta = K.joined;
      beta = λ v _ i. (K.both_kept v.0 v.1.0 i, (K.both_said v.0 v.1.0 i, tt));
    };
    propositions = λ v p q i. tt;
  }

  abbrev pub pair_laws : LL.Laws Pair
  pair_laws = (
    LL.field_laws Kept K.record_type.laws K.record_type.lowered,
    (EL.field_laws Said K.answer_type.laws K.answer_type.few K.answer_type.lowered, tt),
  )

  abbrev pub pair_plain : struct.Plains (structs.fields Pair)
  pair_plain = (LL.field_plain Kept K.record_type.plain, (EL.field_plain Said K.answer_type.plain, tt))

  -- the rows of the three types
  abbrev pub Record : RattleType
  Record = structs.row Kept

  abbrev pub Answer : RattleType
  Answer = enums.row Said

  abbrev pub Handed : RattleType
  Handed = structs.row Pair

  -- their MIR types
  abbrev pub record_ty : Ty
  record_ty = struct.layout (structs.shape Kept)

  abbrev pub answer_ty : Ty
  answer_ty = enum.layout (enums.shape Said)

  abbrev pub pair_ty : Ty
  pair_ty = struct.layout (structs.shape Pair)

  -- their machine values
  abbrev pub record_val : Kept.D → Val
  record_val = LL.val Kept K.record_type.laws

  abbrev pub answer_val : Said.D → Val
  answer_val = EL.val Said K.answer_type.laws

  abbrev pub pair_val : K.Both → Val
  pair_val = LL.val Pair pair_laws
