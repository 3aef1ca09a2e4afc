use Rattle.std.specs.Prelude.{◌≡◌, ◌&&◌}
use Rattle.prost_reflect_dynamic.proofs.Common.{ap, ℕ, Bool, nat_eq, IsTrue, Decides, unsigned_Decides, Decides-and, schema_from, contents_of, contents_eq, contents_decide, pool_contents, rows_same, DescriptorPool}
use Rattle.prost_reflect_dynamic.specs.contracts.descriptor.message.MessageDescriptorPartialEq.TheImpl as message_code
use Rattle.prost_reflect_dynamic.specs.contracts.descriptor.enums.EnumDescriptorPartialEq.TheImpl as enum_code
use Rattle.prost_reflect_dynamic.specs.contracts.descriptor.service.ServiceDescriptorPartialEq.TheImpl as service_code
use Rattle.prost_reflect_dynamic.proofs.descriptor.laws.descriptor_equality.Goals as goal

-- Places are compared first, and then what they are places of.
places_first : {P : Type 0} (is_equal : Bool) (i j : ℕ) → Decides is_equal P → Decides (nat_eq i j && is_equal) (P × (i ≡ j))
places_first is_equal i j decides =
    let both = Decides-and (nat_eq i j) is_equal (unsigned_Decides i j) decides in
    (λ yes. ((both.0 yes).1, (both.0 yes).0), λ same. both.1 (same.1, same.0))

-- Of places in two pools.
in_pools : (p q : DescriptorPool) (i j : ℕ) → Decides (nat_eq i j && contents_eq (pool_contents p.inner) (pool_contents q.inner)) ((pool_contents p.inner ≡ pool_contents q.inner) × (i ≡ j))
in_pools p q i j = places_first (contents_eq (pool_contents p.inner) (pool_contents q.inner)) i j (contents_decide (pool_contents p.inner) (pool_contents q.inner))

-- Of places in what has an equality of its own.
inside : (is_equal : Bool) (i j : ℕ) → Decides (nat_eq i j && is_equal) (IsTrue is_equal × (i ≡ j))
inside is_equal i j = places_first is_equal i j (λ yes. yes, λ yes. yes)

pub returns-clause-pool : goal.returns-clause-pool
unfolding contents_of
returns-clause-pool c = λ a b. contents_decide (pool_contents a.inner) (pool_contents b.inner)

pub returns-clause-tables : goal.returns-clause-tables
returns-clause-tables c = λ a b h. rows_same a.inner b.inner ((contents_decide (pool_contents a.inner) (pool_contents b.inner)).0 h)

pub returns-clause-message : goal.returns-clause-message
unfolding contents_of
returns-clause-message c = λ a b. in_pools a.pool b.pool a.index b.index

pub returns-clause-an_enum : goal.returns-clause-an_enum
unfolding contents_of
returns-clause-an_enum c = λ a b. in_pools a.pool b.pool a.index b.index

pub returns-clause-file : goal.returns-clause-file
unfolding contents_of
returns-clause-file c = λ a b. in_pools a.pool b.pool a.index b.index

pub returns-clause-extension : goal.returns-clause-extension
unfolding contents_of
returns-clause-extension c = λ a b. in_pools a.pool b.pool a.index b.index

pub returns-clause-service : goal.returns-clause-service
unfolding contents_of
returns-clause-service c = λ a b. in_pools a.pool b.pool a.index b.index

pub returns-clause-field : goal.returns-clause-field
returns-clause-field c = λ a b. inside ((message_code.ghosts).eq a.message b.message) a.index b.index

pub returns-clause-oneof : goal.returns-clause-oneof
returns-clause-oneof c = λ a b. inside ((message_code.ghosts).eq a.message b.message) a.index b.index

pub returns-clause-value : goal.returns-clause-value
returns-clause-value c = λ a b. inside ((enum_code.ghosts).eq a.parent b.parent) a.index b.index

pub returns-clause-method : goal.returns-clause-method
returns-clause-method c = λ a b. inside ((service_code.ghosts).eq a.service b.service) a.index b.index

pub returns-clause-schema : goal.returns-clause-schema
returns-clause-schema c = λ a b h. ap schema_from (rows_same a.pool.inner b.pool.inner ((in_pools a.pool b.pool a.index b.index).0 h).0)

pub returns-clause-place : goal.returns-clause-place
returns-clause-place c = λ a b h. ((in_pools a.pool b.pool a.index b.index).0 h).1
