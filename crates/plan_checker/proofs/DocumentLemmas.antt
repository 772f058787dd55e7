-- Data of a TOML document and the plans that it spells: the contracts of `read_plan`, of the readers of a plan's
-- parts, and of `list_of`.
use Rattle.std.proofs.Common.{◌≡◌, ◌<◌, ◌≤◌, ◌+◌, ◌++◌, ℕ, suc, List, [], ◌∷◌, map, take, length, get_or, codes}
use Rattle.std.proofs.Common.{ℤ, MatchResult, Option, Some, None, Result, Ok, Err, All, Vec, Global, subst, zero, refl}
use Rattle.std.proofs.Common.{ap, sym, ◌∙◌, arith}
use Rattle.toml.specs.Data.{Data, string, integer, float, boolean, datetime, array, table, Items, no_items}
use Rattle.toml.specs.Data.{item, Members, no_members, member, get_member, get_item, push_item, as_array}
use Rattle.toml.specs.View.{view, items_of, items_view}
use Rattle.toml.specs.declared.value.Value.{Value}
use Rattle.toml.proofs.Views.{items_view-push, get_item_within}
use Rattle.plan_checker.specs.Fields.{keys_of}
use Rattle.plan_rules.specs.Data.{UserData, DomainData}
use Rattle.plan_checker.specs.Version.{version_number}
use Rattle.plan_checker.specs.Document.{ReadsValue, list, user, document, IsDocument, ReadsDocument, ReadsPlan}
use Rattle.plan_rules.specs.declared.fault.PlanFault.{PlanFault}
use Rattle.plan_rules.specs.declared.fault.PlanFault.TheVariants.{Text, Shape, DomainCount, Name, NameTwice}
use Rattle.plan_rules.specs.declared.fault.PlanFault.TheVariants.{Range, SharedPort, NodeCount, Memory}
use Rattle.plan_rules.specs.declared.fault.PlanFault.TheVariants.{Port, PortTwice, HostCount, UnwiredNode}
use Rattle.plan_rules.specs.declared.fault.PlanFault.TheVariants.{Limit, NoMemory, RangeCount, UserCount}
use Rattle.std.proofs.lemmas.List.{take_more, take_all}

-- the data of a list with x after it is the data of the list with that of x after it
pub items_of-push : {X : Type 0} (make : X → Data) (xs : List X) (x : X)
    → items_of (map make (xs ++ x ∷ [])) ≡ push_item (items_of (map make xs)) (make x)
items_of-push make [] x = refl
items_of-push make (y ∷ xs) x = ap (item (make y)) (items_of-push make xs x)

-- if values spell the first items, and the next one spells x, they spell one item more
pub spells_more : {X : Type 0} (make : X → Data) (vs : List Value) (i : ℕ) (value : Value) (xs : List X) (x : X)
    → i < length vs → value ≡ get_or vs i value → view value ≡ make x → items_view (take i vs) ≡ items_of (map make xs)
    → items_view (take (i + 1) vs) ≡ items_of (map make (xs ++ x ∷ []))
spells_more make vs i value xs x within at_i here so_far =
    let here' : view (get_or vs i value) ≡ make x = ap view (sym at_i) ∙ here in
    rw (take_more vs i value within, items_view-push, items_of-push, so_far, here')

-- a place of a list that holds x
get_item-map : {X : Type 0} (make : X → Data) (xs : List X) (i : ℕ) (other_data : Data) → Some other_data
    ≡ get_item i (items_of (map make xs))
    → (x : X) × (i < length xs) × (get_or xs i x ≡ x) × (other_data ≡ make x)
get_item-map make [] i other_data same = cc
get_item-map make (x ∷ xs) zero other_data same = (x, omega arith, refl, cc)
get_item-map make (x ∷ xs) (suc i) other_data same =
    let found = get_item-map make xs i other_data same in
    (found.0, omega (arith, found.1), found.2, found.3)

-- an array with an item that spells nothing whole is no list
pub refused : {X : Type 0} (Whole : X → Type 0) (make : X → Data) (vs : List Value) (i : ℕ) (value : Value)
    → i < length vs → value ≡ get_or vs i value → ((x : X) → Whole x → ¬ (view value ≡ make x))
    → (xs : List X) → All Whole xs
    → ¬ (array (items_view vs) ≡ list make xs)
refused Whole make vs i value within at_i none xs whole e =
    let same : items_view vs ≡ items_of (map make xs) = cc in
    let found =
    get_item-map make xs i (view value)
    (ap (λ v. Some (view v)) at_i ∙ get_item_within vs i value within ∙ ap (get_item i) same) in
    none found.0 (subst Whole found.2 (whole i found.0 found.1)) found.3

-- data whose items were read as those of an array is that array
pub array_is : (other_data : Data) (items : Items) → Some items ≡ as_array other_data → other_data ≡ array items
array_is (string s) items same = cc
array_is (integer z) items same = cc
array_is (float x) items same = cc
array_is (boolean b) items same = cc
array_is (datetime t) items same = cc
array_is (array ds) items same = cc
array_is (table ms) items same = cc

-- values that all together spell a list are the array of that list
pub spells_all : {X : Type 0} (make : X → Data) (value : Data) (vs : List Value) (i : ℕ) (xs : List X)
    → value ≡ array (items_view vs) → length vs ≤ i → items_view (take i vs) ≡ items_of (map make xs)
    → value ≡ list make xs
spells_all make value vs i xs is all same =
    is ∙ ap array (ap items_view (sym (take_all i vs all)) ∙ same)

-- no values spell no items, and each of none is whole
pub spells_none : {X : Type 0} (Whole : X → Type 0) (make : X → Data) (xs : List X) → xs ≡ []
    → (no_items ≡ items_of (map make xs)) × All Whole xs
spells_none Whole make xs none = rw none (refl, λ k other within. absurd (omega (arith, within)))

-- what the reader of a list of items of any kind says
pub any_items : {X : Type 0} (make : X → Data) (value : Data) (outcome : Result (Vec X Global) PlanFault)
    → ReadsValue {X = Vec X Global} (All (λ _. Unit {0})) (list make) (λ v. v.items) value outcome
    → ReadsValue {X = Vec X Global} (λ _. Unit {0}) (list make) (λ v. v.items) value outcome
any_items make value (Ok v) given = (given.0, tt)
any_items make value (Err Shape) given = λ xs whole. given xs (λ k other within. tt)
any_items make value (Err NoMemory) given = tt
any_items make value (Err _) given = absurd given

-- data that isn't an array is no list
pub no_list : {X : Type 0} (make : X → Data) (value : Data) (xs : List X) → None ≡ as_array value
    → ¬ (value ≡ list make xs)
no_list make value xs none same = let found : None ≡ Some (items_of (map make xs)) = none ∙ ap as_array same in cc

-- the fault of an item is that of the list
pub list_fault : {X : Type 0} (Whole : X → Type 0) (make : X → Data) (value : Data) (vs : List Value)
    (i : ℕ) (other : Value) (fault : PlanFault)
    → value ≡ array (items_view vs) → i < length vs → other ≡ get_or vs i other
    → ReadsValue {X = X} Whole make (λ x. x) (view other) (Err fault)
    → ReadsValue {X = Vec X Global} (All Whole) (list make) (λ v. v.items) value (Err fault)
list_fault Whole make value vs i other Shape is within at_i given =
    λ xs whole. rw is (refused Whole make vs i other within at_i given xs whole)
list_fault Whole make value vs i other NoMemory is within at_i given = tt
list_fault Whole make value vs i other Text is within at_i given = given
list_fault Whole make value vs i other DomainCount is within at_i given = given
list_fault Whole make value vs i other Name is within at_i given = given
list_fault Whole make value vs i other NameTwice is within at_i given = given
list_fault Whole make value vs i other Range is within at_i given = given
list_fault Whole make value vs i other SharedPort is within at_i given = given
list_fault Whole make value vs i other NodeCount is within at_i given = given
list_fault Whole make value vs i other Memory is within at_i given = given
list_fault Whole make value vs i other Port is within at_i given = given
list_fault Whole make value vs i other PortTwice is within at_i given = given
list_fault Whole make value vs i other HostCount is within at_i given = given
list_fault Whole make value vs i other UnwiredNode is within at_i given = given
list_fault Whole make value vs i other Limit is within at_i given = given
list_fault Whole make value vs i other RangeCount is within at_i given = given
list_fault Whole make value vs i other UserCount is within at_i given = given

abbrev count_items : Items → ℕ
count_items no_items = 0
count_items (item d ds) = suc (count_items ds)

count_items-map : {X : Type 0} (make : X → Data) (xs : List X) → count_items (items_of (map make xs)) ≡ length xs
count_items-map make [] = refl
count_items-map make (x ∷ xs) = ap suc (count_items-map make xs)

abbrev items_in : Data → Items
items_in (array ds) = ds
items_in _ = no_items

-- one list of data has one length
pub same_length : {X : Type 0} (make : X → Data) (value : Data) (xs ys : List X) → value ≡ list make xs
    → value ≡ list make ys
    → length xs ≡ length ys
same_length make value xs ys same equal =
    sym (count_items-map make xs) ∙ ap (λ d. count_items (items_in d)) (sym same ∙ equal) ∙ count_items-map make ys

-- one list of the data of a field has one length
pub same_field_length : {X : Type 0} (make : X → Data) (field : Option Data) (xs ys : List X)
    → field ≡ Some (list make xs) → field ≡ Some (list make ys)
    → length xs ≡ length ys
same_field_length make field xs ys same equal = same_length make (list make xs) xs ys refl (cc)

-- a table whose first key is known has a value there, and the other keys in its rest
first_field : (ms : Members) (key : List ℕ) (keys : List (List ℕ)) → keys_of ms ≡ key ∷ keys
    → (value : Data) × (rest : Members) × (ms ≡ member key value rest) × (keys_of rest ≡ keys)
first_field no_members key keys same = cc
first_field (member k value rest) key keys same = (value, rest, cc, cc)

-- a table without keys is empty
no_field : (ms : Members) → keys_of ms ≡ [] → ms ≡ no_members
no_field no_members same = refl
no_field (member k value rest) same = cc

-- a table with exactly the keys of a node has just these two values
pub node_fields : (ms : Members) (links memory : Data)
    → keys_of ms ≡ codes "links" ∷ codes "memory" ∷ []
    → get_member (codes "links") ms ≡ Some links
    → get_member (codes "memory") ms ≡ Some memory
    → ms
    ≡ member (codes "links") links (member (codes "memory") memory no_members)
node_fields ms links memory keys h1 h2 =
    let a = first_field ms _ _ keys in
    let b = first_field a.1 _ _ a.3 in
    let g1 : Some a.0 ≡ Some links = rw (a.2) at h1 in
    let g2 : Some b.0 ≡ Some memory = rw (a.2, b.2) at h2 in
    rw (a.2, b.2, no_field b.1 b.3) (cc)

-- a table with exactly the keys of a user has just these two values
pub user_fields : (ms : Members) (host name : Data)
    → keys_of ms ≡ codes "host" ∷ codes "name" ∷ []
    → get_member (codes "host") ms ≡ Some host
    → get_member (codes "name") ms ≡ Some name
    → ms
    ≡ member (codes "host") host (member (codes "name") name no_members)
user_fields ms host name keys h1 h2 =
    let a = first_field ms _ _ keys in
    let b = first_field a.1 _ _ a.3 in
    let g1 : Some a.0 ≡ Some host = rw (a.2) at h1 in
    let g2 : Some b.0 ≡ Some name = rw (a.2, b.2) at h2 in
    rw (a.2, b.2, no_field b.1 b.3) (cc)

-- a table with exactly the keys of a domain in version 1 has just these six values
pub one_range_fields : (ms : Members) (first host last limit name node : Data)
    → keys_of ms ≡ codes "first" ∷ codes "host" ∷ codes "last" ∷ codes "limit" ∷ codes "name" ∷ codes "node" ∷ []
    → get_member (codes "first") ms ≡ Some first
    → get_member (codes "host") ms ≡ Some host
    → get_member (codes "last") ms ≡ Some last
    → get_member (codes "limit") ms ≡ Some limit
    → get_member (codes "name") ms ≡ Some name
    → get_member (codes "node") ms ≡ Some node
    → ms
    ≡ member (codes "first") first
    (member (codes "host") host
    (member (codes "last") last
    (member (codes "limit") limit (member (codes "name") name (member (codes "node") node no_members)))))
one_range_fields ms first host last limit name node keys h1 h2 h3 h4 h5 h6 =
    let a = first_field ms _ _ keys in
    let b = first_field a.1 _ _ a.3 in
    let c = first_field b.1 _ _ b.3 in
    let d = first_field c.1 _ _ c.3 in
    let e = first_field d.1 _ _ d.3 in
    let f = first_field e.1 _ _ e.3 in
    let g1 : Some a.0 ≡ Some first = rw (a.2) at h1 in
    let g2 : Some b.0 ≡ Some host = rw (a.2, b.2) at h2 in
    let g3 : Some c.0 ≡ Some last = rw (a.2, b.2, c.2) at h3 in
    let g4 : Some d.0 ≡ Some limit = rw (a.2, b.2, c.2, d.2) at h4 in
    let g5 : Some e.0 ≡ Some name = rw (a.2, b.2, c.2, d.2, e.2) at h5 in
    let g6 : Some f.0 ≡ Some node = rw (a.2, b.2, c.2, d.2, e.2, f.2) at h6 in
    rw (a.2, b.2, c.2, d.2, e.2, f.2, no_field f.1 f.3) (cc)

-- a table with exactly the keys of a domain in version 2 has just these five values
pub one_user_fields : (ms : Members) (host limit name node range : Data)
    → keys_of ms ≡ codes "host" ∷ codes "limit" ∷ codes "name" ∷ codes "node" ∷ codes "range" ∷ []
    → get_member (codes "host") ms ≡ Some host
    → get_member (codes "limit") ms ≡ Some limit
    → get_member (codes "name") ms ≡ Some name
    → get_member (codes "node") ms ≡ Some node
    → get_member (codes "range") ms ≡ Some range
    → ms
    ≡ member (codes "host") host
    (member (codes "limit") limit
    (member (codes "name") name (member (codes "node") node (member (codes "range") range no_members))))
one_user_fields ms host limit name node range keys h1 h2 h3 h4 h5 =
    let a = first_field ms _ _ keys in
    let b = first_field a.1 _ _ a.3 in
    let c = first_field b.1 _ _ b.3 in
    let d = first_field c.1 _ _ c.3 in
    let e = first_field d.1 _ _ d.3 in
    let g1 : Some a.0 ≡ Some host = rw (a.2) at h1 in
    let g2 : Some b.0 ≡ Some limit = rw (a.2, b.2) at h2 in
    let g3 : Some c.0 ≡ Some name = rw (a.2, b.2, c.2) at h3 in
    let g4 : Some d.0 ≡ Some node = rw (a.2, b.2, c.2, d.2) at h4 in
    let g5 : Some e.0 ≡ Some range = rw (a.2, b.2, c.2, d.2, e.2) at h5 in
    rw (a.2, b.2, c.2, d.2, e.2, no_field e.1 e.3) (cc)

-- a table with exactly the keys of a domain in version 3 has just these four values
pub users_fields : (ms : Members) (limit node range user : Data)
    → keys_of ms ≡ codes "limit" ∷ codes "node" ∷ codes "range" ∷ codes "user" ∷ []
    → get_member (codes "limit") ms ≡ Some limit
    → get_member (codes "node") ms ≡ Some node
    → get_member (codes "range") ms ≡ Some range
    → get_member (codes "user") ms ≡ Some user
    → ms
    ≡ member (codes "limit") limit
    (member (codes "node") node
    (member (codes "range") range (member (codes "user") user no_members)))
users_fields ms limit node range user keys h1 h2 h3 h4 =
    let a = first_field ms _ _ keys in
    let b = first_field a.1 _ _ a.3 in
    let c = first_field b.1 _ _ b.3 in
    let d = first_field c.1 _ _ c.3 in
    let g1 : Some a.0 ≡ Some limit = rw (a.2) at h1 in
    let g2 : Some b.0 ≡ Some node = rw (a.2, b.2) at h2 in
    let g3 : Some c.0 ≡ Some range = rw (a.2, b.2, c.2) at h3 in
    let g4 : Some d.0 ≡ Some user = rw (a.2, b.2, c.2, d.2) at h4 in
    rw (a.2, b.2, c.2, d.2, no_field d.1 d.3) (cc)

-- a table with exactly the keys of a document has just these two values
pub document_fields : (ms : Members) (domain version : Data)
    → keys_of ms ≡ codes "domain" ∷ codes "version" ∷ []
    → get_member (codes "domain") ms ≡ Some domain
    → get_member (codes "version") ms ≡ Some version
    → ms
    ≡ member (codes "domain") domain (member (codes "version") version no_members)
document_fields ms domain version keys h1 h2 =
    let a = first_field ms _ _ keys in
    let b = first_field a.1 _ _ a.3 in
    let g1 : Some a.0 ≡ Some domain = rw (a.2) at h1 in
    let g2 : Some b.0 ≡ Some version = rw (a.2, b.2) at h2 in
    rw (a.2, b.2, no_field b.1 b.3) (cc)

-- what the reader of a document says of the bytes that write it
pub reads_document : (bytes : List ℕ) (ms : Members) (outcome : Result (List DomainData) PlanFault)
    → IsDocument bytes ms → ReadsDocument ms outcome
    → ReadsPlan bytes outcome
reads_document bytes ms (Ok plan) is given = (given.0, (is.0, is.1 ∙ ap Some given.1.0), given.1.1)
reads_document bytes ms (Err Shape) is holds = (
  (ms, is),
  λ plan given. let same : Some ms ≡ Some (document given.0 plan) = sym is.1 ∙ given.1.1 in
      holds given.0 plan (cc, given.2),
)
reads_document bytes ms (Err NoMemory) is given = tt
reads_document bytes ms (Err Text) is given = absurd given
reads_document bytes ms (Err DomainCount) is given = absurd given
reads_document bytes ms (Err Name) is given = absurd given
reads_document bytes ms (Err NameTwice) is given = absurd given
reads_document bytes ms (Err Range) is given = absurd given
reads_document bytes ms (Err SharedPort) is given = absurd given
reads_document bytes ms (Err NodeCount) is given = absurd given
reads_document bytes ms (Err Memory) is given = absurd given
reads_document bytes ms (Err Port) is given = absurd given
reads_document bytes ms (Err PortTwice) is given = absurd given
reads_document bytes ms (Err HostCount) is given = absurd given
reads_document bytes ms (Err UnwiredNode) is given = absurd given
reads_document bytes ms (Err Limit) is given = absurd given
reads_document bytes ms (Err RangeCount) is given = absurd given
reads_document bytes ms (Err UserCount) is given = absurd given

-- a part of a value that has a fault gives the value that fault
pub part_fault : {X Y Z W D E : Type 0} (Part : Y → Type 0) (f : Y → D) (shown : X → Y) (Whole : Z → Type 0)
    (g : Z → E) (seen : W → Z) (v : D) (w : E) (fault : PlanFault) (of : Z → Y)
    → ((z : Z) → Whole z → w ≡ g z → (v ≡ f (of z)) × Part (of z))
    → ReadsValue {X = X} Part f shown v (Err fault) → ReadsValue {X = W} Whole g seen w (Err fault)
part_fault Part f shown Whole g seen v w Shape of taken given =
    λ z whole is. given (of z) (taken z whole is).1 (taken z whole is).0
part_fault Part f shown Whole g seen v w NoMemory of taken given = tt
part_fault Part f shown Whole g seen v w _ of taken given = absurd given

-- the value of a field, in a table that is written in two ways
pub at_field : (value : Data) (ms ns : Members) (key : List ℕ) → value ≡ table ms → value ≡ table ns
    → get_member key ms ≡ get_member key ns
at_field value ms ns key first second = cc

-- the values of two fields, in a table that is written in two ways
pub at_fields : (value : Data) (ms ns : Members) (key other : List ℕ) → value ≡ table ms → value ≡ table ns
    → get_member key ms ∷ get_member other ms ∷ [] ≡ get_member key ns ∷ get_member other ns ∷ []
at_fields value ms ns key other first second = cc

-- two values that are equal to two others
pub both : {A : Type 0} (a b c d : A) → a ∷ b ∷ [] ≡ c ∷ d ∷ [] → (a ≡ c) × (b ≡ d)
both a b c d same = (cc, cc)

-- what the reader of a value says of the field that has it
pub in_field : {X Y : Type 0} (Whole : Y → Type 0) (make : Y → Data) (shown : X → Y) (field : Option Data)
    (value : Data) (outcome : Result X PlanFault)
    → field ≡ Some value → ReadsValue {X = X} Whole make shown value outcome
    → ReadsValue {X = X} Whole (λ y. Some (make y)) shown field outcome
in_field Whole make shown field value (Ok x) at given = (at ∙ ap Some given.0, given.1)
in_field Whole make shown field value (Err Shape) at given = λ y whole is. given y whole (cc)
in_field Whole make shown field value (Err NoMemory) at given = tt
in_field Whole make shown field value (Err _) at given = absurd given

-- a list of one item that is read, as the only one
pub only_item : {Y D : Type 0} (Whole : List Y → Type 0) (make : List Y → D) (v : D) (y : Y)
    (outcome : Result (Vec Y Global) PlanFault) → v ≡ make (y ∷ []) → Whole (y ∷ [])
    → MatchResult outcome (λ xs. xs.items ≡ y ∷ []) (λ e. e ≡ NoMemory)
    → ReadsValue {X = Vec Y Global} Whole make (λ xs. xs.items) v outcome
only_item Whole make v y (Ok xs) is whole given = rw given (is, whole)
only_item Whole make v y (Err fault) is whole given = rw given tt

-- what the reader of a user's fields says of the value whose table has just them
pub whole_user : (value : Data) (ms : Members) (outcome : Result UserData PlanFault) → value ≡ table ms
    → keys_of ms ≡ codes "host" ∷ codes "name" ∷ []
    → ReadsValue {X = UserData} (λ _. Unit {0}) (λ u. Some (list integer u.hosts) ∷ Some (string u.name) ∷ []) (λ u. u)
    (get_member (codes "host") ms ∷ get_member (codes "name") ms ∷ []) outcome
    → ReadsValue {X = UserData} (λ _. Unit {0}) user (λ u. u) value outcome
whole_user value ms (Ok u) is keys given =
    let two = both _ _ _ _ given.0 in
    (is ∙ ap table (user_fields ms _ _ keys two.0 two.1), tt)
whole_user value ms (Err fault) is keys given =
    part_fault {X = UserData} (λ _. Unit {0}) (λ u. Some (list integer u.hosts) ∷ Some (string u.name) ∷ []) (λ u. u)
    (λ _. Unit {0}) user (λ u. u) _ value fault (λ (u : UserData). u)
    (λ u whole e. (at_fields value ms _ (codes "host") (codes "name") is e, tt)) given

-- a fault of the number of the version is that of the document
pub number_fault : (ms : Members) (fault : PlanFault)
    → ReadsValue {X = ℤ} (λ _. Unit {0}) (λ z. Some (integer z)) (λ z. z) (get_member (codes "version") ms) (Err fault)
    → ReadsDocument ms (Err fault)
number_fault ms Shape given =
    λ version plan is. given (version_number version) tt (ap (get_member (codes "version")) is.0)
number_fault ms NoMemory given = tt
number_fault ms _ given = absurd given
