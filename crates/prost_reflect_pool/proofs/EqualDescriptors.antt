-- `==` of shared files looks at what they hold.
use Rattle.std.specs.Prelude.{◌≡◌, ◌&&◌, ◌∷◌}
use Rattle.prost_reflect_pool.proofs.Common.{List, [], refl, ap, Global, Rc, of_file, shared_files, FileDescriptorProto, contents_eq, contents_of}
use Rattle.std.specs.Cmp.Lexicographic.{pointwise}
use Rattle.prost_reflect_wire.specs.ContentEquality.{content_eq}

pub files_compared : (xs ys : List (Rc FileDescriptorProto Global)) → pointwise (λ x y. content_eq (of_file x.value) (of_file y.value)) xs ys ≡ contents_eq (contents_of (shared_files xs)) (contents_of (shared_files ys))
unfolding contents_eq contents_of
files_compared [] [] = refl
files_compared [] (y ∷ ys) = refl
files_compared (x ∷ xs) [] = refl
files_compared (x ∷ xs) (y ∷ ys) = ap (λ t. content_eq (of_file x.value) (of_file y.value) && t) (files_compared xs ys)
