use Rattle.std.proofs.Common.{inl, inr, refl}
use Rattle.prost_reflect_tables.proofs.scalar.ScalarRef.zero.Goals as goal

pub returns-in-Double : goal.returns-in-Double
returns-in-Double c = rw c.in-Double.is refl

pub returns-in-Float : goal.returns-in-Float
returns-in-Float c = rw c.in-Float.is refl

pub returns-in-Bool : goal.returns-in-Bool
returns-in-Bool c = rw c.in-Bool.is refl

pub returns-in-String : goal.returns-in-String
returns-in-String c = rw c.in-String.is refl

pub returns-in-Bytes : goal.returns-in-Bytes
returns-in-Bytes c = rw c.in-Bytes.is refl

pub returns-in-Enum : goal.returns-in-Enum
returns-in-Enum c = rw c.in-Enum.is refl

pub returns-in-Int32 : goal.returns-in-Int32
returns-in-Int32 c = elim c.in-Int32.is [ inl e ↦ rw e refl | inr es ↦ elim es [ inl e ↦ rw e refl | inr e ↦ rw e refl ] ]

pub returns-in-Int64 : goal.returns-in-Int64
returns-in-Int64 c = elim c.in-Int64.is [ inl e ↦ rw e refl | inr es ↦ elim es [ inl e ↦ rw e refl | inr e ↦ rw e refl ] ]

pub returns-in-Uint32 : goal.returns-in-Uint32
returns-in-Uint32 c = elim c.in-Uint32.is [ inl e ↦ rw e refl | inr e ↦ rw e refl ]

pub returns-in-Uint64 : goal.returns-in-Uint64
returns-in-Uint64 c = elim c.in-Uint64.is [ inl e ↦ rw e refl | inr e ↦ rw e refl ]
