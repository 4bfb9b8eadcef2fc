-- Later states of an item.

-- whatever state `item` is later than, `later` is later than it too; each visit preserves this, and so do many
abbrev pub IsLater : {T : Type 0} → (T → T → Type 0) → T → T → Type 0
IsLater {T} since item later = (first : T) → since first item → since first later
