-- The words that tell what is wrong with bytes.
use Rattle.std.specs.Prelude.{ℕ, List, ◌++◌, codes, decimal}
use Rattle.doc_tree.specs.declared.fault.TreeFault.{TreeFault}
use Rattle.doc_tree.specs.declared.fault.TreeFault.TheVariants.{Malformed, Doctype, Encoding, Deep, Long, Memory}

-- the name of what is wrong, and its place in bytes where it has one
abbrev pub tree_words : TreeFault → List ℕ
tree_words (Malformed at) = codes "Malformed at " ++ decimal at
tree_words (Doctype at) = codes "Doctype at " ++ decimal at
tree_words Encoding = codes "Encoding"
tree_words (Deep at) = codes "Deep at " ++ decimal at
tree_words Long = codes "Long"
tree_words Memory = codes "there was no memory"
