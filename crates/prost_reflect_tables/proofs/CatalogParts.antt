-- Rows of a catalog are equal where their parts are.
use Rattle.std.specs.Prelude.{◌≡◌}
use Rattle.prost_reflect_tables.proofs.Common.{ℕ, Bool, List, length, ap, ◌∙◌, FileRow, MessageListsRow, EnumListsRow, ExtensionRow, ServiceRow, SortedRow, CatalogRows, FlatRows, links_of, linked_rows, TableRows}
use Rattle.prost_reflect_tables.proofs.Linkwell.Items.{messages_length}

abbrev make_same_file : List ℕ → List ℕ → List ℕ → List ℕ → List ℕ → List ℕ → Bool → FileRow
make_same_file x0 x1 x2 x3 x4 x5 x6 = record { messages = x0; enums = x1; extensions = x2; services = x3; dependencies = x4; public_dependencies = x5; is_proto3 = x6 }

pub same_file : (a b : FileRow) → a.messages ≡ b.messages → a.enums ≡ b.enums → a.extensions ≡ b.extensions → a.services ≡ b.services → a.dependencies ≡ b.dependencies → a.public_dependencies ≡ b.public_dependencies → a.is_proto3 ≡ b.is_proto3 → a ≡ b
same_file a b p0 p1 p2 p3 p4 p5 p6 =
    ap (λ v. make_same_file v a.enums a.extensions a.services a.dependencies a.public_dependencies a.is_proto3) p0
    ∙ (ap (λ v. make_same_file b.messages v a.extensions a.services a.dependencies a.public_dependencies a.is_proto3) p1
    ∙ (ap (λ v. make_same_file b.messages b.enums v a.services a.dependencies a.public_dependencies a.is_proto3) p2
    ∙ (ap (λ v. make_same_file b.messages b.enums b.extensions v a.dependencies a.public_dependencies a.is_proto3) p3
    ∙ (ap (λ v. make_same_file b.messages b.enums b.extensions b.services v a.public_dependencies a.is_proto3) p4
    ∙ (ap (λ v. make_same_file b.messages b.enums b.extensions b.services b.dependencies v a.is_proto3) p5
    ∙ (ap (λ v. make_same_file b.messages b.enums b.extensions b.services b.dependencies b.public_dependencies v) p6))))))

abbrev make_same_lists : List ℕ → List ℕ → List ℕ → List ℕ → List ℕ → List ℕ → List ℕ → MessageListsRow
make_same_lists x0 x1 x2 x3 x4 x5 x6 = record { messages = x0; enums = x1; extensions = x2; extending = x3; fields = x4; by_name = x5; by_json_name = x6 }

pub same_lists : (a b : MessageListsRow) → a.messages ≡ b.messages → a.enums ≡ b.enums → a.extensions ≡ b.extensions → a.extending ≡ b.extending → a.fields ≡ b.fields → a.by_name ≡ b.by_name → a.by_json_name ≡ b.by_json_name → a ≡ b
same_lists a b p0 p1 p2 p3 p4 p5 p6 =
    ap (λ v. make_same_lists v a.enums a.extensions a.extending a.fields a.by_name a.by_json_name) p0
    ∙ (ap (λ v. make_same_lists b.messages v a.extensions a.extending a.fields a.by_name a.by_json_name) p1
    ∙ (ap (λ v. make_same_lists b.messages b.enums v a.extending a.fields a.by_name a.by_json_name) p2
    ∙ (ap (λ v. make_same_lists b.messages b.enums b.extensions v a.fields a.by_name a.by_json_name) p3
    ∙ (ap (λ v. make_same_lists b.messages b.enums b.extensions b.extending v a.by_name a.by_json_name) p4
    ∙ (ap (λ v. make_same_lists b.messages b.enums b.extensions b.extending b.fields v a.by_json_name) p5
    ∙ (ap (λ v. make_same_lists b.messages b.enums b.extensions b.extending b.fields b.by_name v) p6))))))

abbrev make_same_sorted : List ℕ → List ℕ → List ℕ → List ℕ → List ℕ → List (ℕ × ℕ) → SortedRow
make_same_sorted x0 x1 x2 x3 x4 x5 = record { files = x0; messages = x1; enums = x2; extensions = x3; services = x4; values = x5 }

pub same_sorted : (a b : SortedRow) → a.files ≡ b.files → a.messages ≡ b.messages → a.enums ≡ b.enums → a.extensions ≡ b.extensions → a.services ≡ b.services → a.values ≡ b.values → a ≡ b
same_sorted a b p0 p1 p2 p3 p4 p5 =
    ap (λ v. make_same_sorted v a.messages a.enums a.extensions a.services a.values) p0
    ∙ (ap (λ v. make_same_sorted b.files v a.enums a.extensions a.services a.values) p1
    ∙ (ap (λ v. make_same_sorted b.files b.messages v a.extensions a.services a.values) p2
    ∙ (ap (λ v. make_same_sorted b.files b.messages b.enums v a.services a.values) p3
    ∙ (ap (λ v. make_same_sorted b.files b.messages b.enums b.extensions v a.values) p4
    ∙ (ap (λ v. make_same_sorted b.files b.messages b.enums b.extensions b.services v) p5)))))

abbrev make_same_catalog : List FileRow → List MessageListsRow → List EnumListsRow → List ExtensionRow → List ServiceRow → SortedRow → CatalogRows
make_same_catalog x0 x1 x2 x3 x4 x5 = record { files = x0; messages = x1; enums = x2; extensions = x3; services = x4; by_name = x5 }

pub same_catalog : (a b : CatalogRows) → a.files ≡ b.files → a.messages ≡ b.messages → a.enums ≡ b.enums → a.extensions ≡ b.extensions → a.services ≡ b.services → a.by_name ≡ b.by_name → a ≡ b
same_catalog a b p0 p1 p2 p3 p4 p5 =
    ap (λ v. make_same_catalog v a.messages a.enums a.extensions a.services a.by_name) p0
    ∙ (ap (λ v. make_same_catalog b.files v a.enums a.extensions a.services a.by_name) p1
    ∙ (ap (λ v. make_same_catalog b.files b.messages v a.extensions a.services a.by_name) p2
    ∙ (ap (λ v. make_same_catalog b.files b.messages b.enums v a.services a.by_name) p3
    ∙ (ap (λ v. make_same_catalog b.files b.messages b.enums b.extensions v a.by_name) p4
    ∙ (ap (λ v. make_same_catalog b.files b.messages b.enums b.extensions b.services v) p5)))))

-- As many messages are linked as there are.
pub linked_length : (linked : TableRows) (rows : FlatRows) → linked ≡ linked_rows rows → length linked.messages ≡ length rows.messages
linked_length linked rows e = ap (λ (r : TableRows). length r.messages) e ∙ messages_length (links_of rows) rows.extensions 0 rows.messages
