-- The recovered state is sound.
use Rattle.std.proofs.Common.{◌≡◌, ℕ, ◌+◌, ◌≤◌, List, length, take, Option, Some, None, refl, sym, subst, arith}
use Rattle.std.proofs.lemmas.List.{length-map}
use Rattle.model.specs.Tree.{Path, Node, found_names, names_in, names_of}
use Rattle.std.specs.FinMap.{get, len}
use Rattle.limits.specs.declared.TheConstants.{DIRECTORY_NAMES}
use Rattle.model.specs.Session.{State}
use Rattle.model.specs.Graph.{Body, Entry, content_in}
use Rattle.model.specs.Graph.Body.{Bytes, Entries}
use Rattle.model.specs.Laws.{IsSound}
use Rattle.model.proofs.Counts.{len_both}
use Rattle.durability.specs.Formats.{NodePlace, NodeFields, Formats, AreBounded}
use Rattle.durability.specs.Formats.NodePlace.{Nowhere, Extent, Extents, Inside}
use Rattle.durability.specs.Volume.{Medium, HoldsDirectory, HoldsBody, extent, RecoversTo}

module _ (formats : Formats) (bounded : AreBounded formats) where
  few_entries : (M : Medium) (size : ℕ) (place : NodePlace) (parent : ℕ) (es : List Entry) → HoldsDirectory formats M size place parent es → length es ≤ DIRECTORY_NAMES
  few_entries M size Nowhere parent es h = absurd h
  few_entries M size (Inside inside) parent es h = absurd h
  few_entries M size (Extents descriptors) parent es h = absurd h
  few_entries M size (Extent first) parent es h = bounded.names parent first size es (extent M first size) h.1

  few_names : (M : Medium) (fields : NodeFields) (body : Body) → HoldsBody formats M fields body → length (names_in (content_in body)) ≤ DIRECTORY_NAMES
  few_names M fields (Bytes bytes) h = omega arith
  few_names M fields (Entries parent es) h = omega (arith, few_entries M fields.size fields.place parent es h.1, length-map es (λ (e : Entry). e.name))

  -- What the laws of the model ask of a state holds of the recovered one.
  pub stands_sound : (capacity volume : ℕ) (B : Medium) (S : State) → RecoversTo formats capacity volume B S → IsSound S
  stands_sound capacity volume B S s =
      let nodes = bounded.nodes s.tells.table _ _ s.tells.has.is in
      let both = len_both S.tree in
      let room : 1 + len S.tree ≤ length s.tells.table.entries = omega (arith, nodes.0, s.tells.files, s.tells.directories) in
      record {
        tree = s.tells.tree;
        identities = s.tells.identities;
        limits = record { names = λ path. names path (get S.tree path) refl; nodes = omega (arith, room, nodes.1) };
        drawn = s.tells.few_identities;
        room = omega (arith, room, s.tells.table_length);
        table = omega (arith, nodes.1, s.tells.table_length);
      }
    where
      names : (path : Path) (o : Option Node) → get S.tree path ≡ o → length (found_names o) ≤ DIRECTORY_NAMES
      names path None e = omega arith
      names path (Some node) e =
          let found = (s.tells.makes.reached path node).0 e in
          subst (λ (n : Node). length (names_of n) ≤ DIRECTORY_NAMES) (sym found.4) (few_names (take s.at B) found.3.fields found.2.body found.3.body)
