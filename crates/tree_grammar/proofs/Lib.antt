mod Order
pub mod XmlTexts
