-- Needs of a function that stand in a row, answered together: `spec ·³ (search needs)` is `spec` at the next three, found by one search.
-- Assumes nothing.
infixl 1 ◌·◌ ◌·²◌ ◌·³◌ ◌·⁴◌ ◌·⁵◌ ◌·⁶◌ ◌·⁷◌ ◌·⁸◌ ◌·⁹◌ ◌·¹⁰◌ ◌·¹¹◌ ◌·¹²◌ ◌·¹³◌ ◌·¹⁴◌ ◌·¹⁵◌ ◌·¹⁶◌
module _ {R : Type 2} where
  pub ◌·◌ : {A : Type 0} → (A → R) → A → R
  ◌·◌ f a = f a

  pub ◌·²◌ : {A B : Type 0} → (A → B → R) → A × B → R
  ◌·²◌ f p = f p.0 p.1

  pub ◌·³◌ : {A B C : Type 0} → (A → B → C → R) → A × (B × C) → R
  ◌·³◌ f p = ◌·²◌ (f p.0) p.1

  pub ◌·⁴◌ : {A B C D : Type 0} → (A → B → C → D → R) → A × (B × (C × D)) → R
  ◌·⁴◌ f p = ◌·³◌ (f p.0) p.1

  pub ◌·⁵◌ : {A B C D E : Type 0} → (A → B → C → D → E → R) → A × (B × (C × (D × E))) → R
  ◌·⁵◌ f p = ◌·⁴◌ (f p.0) p.1

  pub ◌·⁶◌ : {A B C D E F : Type 0} → (A → B → C → D → E → F → R) → A × (B × (C × (D × (E × F)))) → R
  ◌·⁶◌ f p = ◌·⁵◌ (f p.0) p.1

  pub ◌·⁷◌ : {A B C D E F G : Type 0} → (A → B → C → D → E → F → G → R) → A × (B × (C × (D × (E × (F × G))))) → R
  ◌·⁷◌ f p = ◌·⁶◌ (f p.0) p.1

  pub ◌·⁸◌ : {A B C D E F G H : Type 0} → (A → B → C → D → E → F → G → H → R) → A × (B × (C × (D × (E × (F × (G × H)))))) → R
  ◌·⁸◌ f p = ◌·⁷◌ (f p.0) p.1

  pub ◌·⁹◌ : {A B C D E F G H I : Type 0} → (A → B → C → D → E → F → G → H → I → R) → A × (B × (C × (D × (E × (F × (G × (H × I))))))) → R
  ◌·⁹◌ f p = ◌·⁸◌ (f p.0) p.1

  pub ◌·¹⁰◌ : {A B C D E F G H I J : Type 0} → (A → B → C → D → E → F → G → H → I → J → R) → A × (B × (C × (D × (E × (F × (G × (H × (I × J)))))))) → R
  ◌·¹⁰◌ f p = ◌·⁹◌ (f p.0) p.1

  pub ◌·¹¹◌ : {A B C D E F G H I J K : Type 0} → (A → B → C → D → E → F → G → H → I → J → K → R) → A × (B × (C × (D × (E × (F × (G × (H × (I × (J × K))))))))) → R
  ◌·¹¹◌ f p = ◌·¹⁰◌ (f p.0) p.1

  pub ◌·¹²◌ : {A B C D E F G H I J K L : Type 0} → (A → B → C → D → E → F → G → H → I → J → K → L → R) → A × (B × (C × (D × (E × (F × (G × (H × (I × (J × (K × L)))))))))) → R
  ◌·¹²◌ f p = ◌·¹¹◌ (f p.0) p.1

  pub ◌·¹³◌ : {A B C D E F G H I J K L M : Type 0} → (A → B → C → D → E → F → G → H → I → J → K → L → M → R) → A × (B × (C × (D × (E × (F × (G × (H × (I × (J × (K × (L × M))))))))))) → R
  ◌·¹³◌ f p = ◌·¹²◌ (f p.0) p.1

  pub ◌·¹⁴◌ : {A B C D E F G H I J K L M N : Type 0} → (A → B → C → D → E → F → G → H → I → J → K → L → M → N → R) → A × (B × (C × (D × (E × (F × (G × (H × (I × (J × (K × (L × (M × N)))))))))))) → R
  ◌·¹⁴◌ f p = ◌·¹³◌ (f p.0) p.1

  pub ◌·¹⁵◌ : {A B C D E F G H I J K L M N O : Type 0} → (A → B → C → D → E → F → G → H → I → J → K → L → M → N → O → R) → A × (B × (C × (D × (E × (F × (G × (H × (I × (J × (K × (L × (M × (N × O))))))))))))) → R
  ◌·¹⁵◌ f p = ◌·¹⁴◌ (f p.0) p.1

  pub ◌·¹⁶◌ : {A B C D E F G H I J K L M N O P : Type 0} → (A → B → C → D → E → F → G → H → I → J → K → L → M → N → O → P → R) → A × (B × (C × (D × (E × (F × (G × (H × (I × (J × (K × (L × (M × (N × (O × P)))))))))))))) → R
  ◌·¹⁶◌ f p = ◌·¹⁵◌ (f p.0) p.1
